-- `psi` deals the execution and hashes its outputs. Assumes nothing.
use Rattle.std.proofs.Common.{◌≡◌, ◌∙◌, arith, rules, length}
use lib.Seq.{length-take-le, take_at}
use Rattle.numbers.proofs.Inverse.{q_positive}
use Rattle.response.proofs.Laws.{held-outputs}
use Rattle.message_5.proofs.Laws.{psi_of}
use Rattle.message_5.proofs.psi.Goals as goal

pub returns-clause-psi : goal.returns-clause-psi
returns-clause-psi c =
    let k = c.args.materials.numbers in
    let outs = c.dealt_outputs.new.outs in
    let long : length outs ≡ k.parties = c.dealt_outputs.auto.outs ∙ length-take-le k.parties _ (omega (arith, k.limits.parties_most)) in
    let κ : c.unwrap-kappa.result.now ≡ c.args.materials.given.kappa.now = search rules in
    let h = rw (κ, take_at outs _ k.parties long) at c.psi_of.ensures in
    psi_of (rw c.master.ensures at c.deal.ensures.dealt) (λ K v so. held-outputs so (q_positive k.limits.q_listed) c.args.seed.now c.dealt_outputs.ensures) h
