-- `evaluate` meets its contract. Assumes nothing.
use Rattle.std.proofs.Common.{◌∙◌, ap, replicate, length-take-le}
use Rattle.sha_core.specs.Fips180.{sha256}
use Rattle.protocol.specs.Judge.{kept_view}
use Rattle.execution.specs.Shown.{Shown}
use Rattle.views.proofs.Laws.{pi_is}
use Rattle.outputs.specs.Stated.{outputs_are}
use Rattle.kept.proofs.Laws.{evaluates, kept_for_h, kept_shared, answered, shared_stated, shared_for_Π}
use Rattle.kept.proofs.evaluate.Goals as goal

pub returns : goal.returns
returns c =
    let a = c.args in
    let E = a.evaluation in
    λ K P so.
    let S : Shown K (kept_view K P a.execution) a.leaves.now E.work.now = c.requires.kept.shown K P a.execution so.sized so.deep so.hides so.at in
    let some = E.parties_least in
    let shared = kept_shared so S some in
    evaluates so S some (c.h_of-h.ensures K _ (kept_for_h so S some)) c.omega_at-omega.ensures.last_hidden (λ other v. c.omega_at-omega.ensures.last_open other K v)
    (answered shared a.seed.now a.kappa.now _ (length-take-le _ (replicate 32 0) E.parties_most)
    (outputs_are (shared_stated shared _ c.pi_of-pi.ensures.sums_after c.le32-shown.ensures) a.seed.now _ c.outputs.ensures)
    (c.pi_of-pi.ensures.value ∙ ap sha256 (pi_is (shared_for_Π shared) a.kappa.now)) c.psi_of-psi.ensures c.sum_is_zero-zero.ensures)
