-- `omega_and_pi` deals the execution and hashes it. Assumes nothing.
use Rattle.std.proofs.Common.{◌≡◌, arith, rules}
use Rattle.message_3.proofs.Laws.{omega_of, pi_of}
use Rattle.message_3.proofs.omega_and_pi.Goals as goal

pub returns-clause-omega : goal.returns-clause-omega
returns-clause-omega c =
    let some = c.args.materials.numbers.limits.parties_least in
    omega_of (omega (arith, some)) (rw c.master.ensures at c.deal_masks.ensures.masked) c.omega_of.ensures

pub returns-clause-pi : goal.returns-clause-pi
returns-clause-pi c =
    let some = c.args.materials.numbers.limits.parties_least in
    let κ : c.unwrap-kappa.result.now ≡ c.args.materials.given.kappa.now = search rules in
    pi_of _ (omega (arith, some)) (rw c.master.ensures at c.deal_masks.ensures.masked) (rw κ at c.pi_of.ensures.value)
