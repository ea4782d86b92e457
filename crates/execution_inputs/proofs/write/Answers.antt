-- `write` meets its contract. Assumes nothing.
use Rattle.std.proofs.Common.{◌∙◌, [], refl, sym, arith, append-nil}
use Rattle.protocol.specs.Judge.{kept_view}
use Rattle.execution.specs.Shown.{Shown}
use Rattle.views.proofs.Laws.{pi_is}
use Rattle.inputs.specs.Steps.{omega_in}
use Rattle.kept.proofs.Laws.{kept_shared, shared_for_Π, shared_stated}
use Rattle.execution_inputs.proofs.Laws.{written, laid_out, in_row}
use Rattle.execution_inputs.proofs.write.Goals as goal

pub returns-clause-written : goal.returns-clause-written
unfolding omega_in
returns-clause-written c =
    let a = c.args in
    let E = a.evaluation in
    let p = c.requires in
    λ K P so.
    let S : Shown K (kept_view K P a.execution) a.leaves.now E.work.now = p.kept.shown K P a.execution so.sized so.deep so.hides so.at in
    let shared = kept_shared so S E.parties_least in
    written so S E.parties_least p.leaves_long E.work_long (omega (arith, p.reply_long))
    (in_row c.h_input.ensures c.gamma_inputs.ensures c.omega_input.ensures (c.pi_input.ensures.out_after ∙ pi_is (shared_for_Π shared) a.kappa.now)
    (c.psi_input.ensures K _ (shared_stated shared [] (c.pi_input.ensures.sums_after ∙ sym (append-nil _)) refl)))

pub returns-clause-out_after : goal.returns-clause-out_after
unfolding omega_in
returns-clause-out_after c =
    let a = c.args in
    let E = a.evaluation in
    let p = c.requires in
    λ K P so.
    let S : Shown K (kept_view K P a.execution) a.leaves.now E.work.now = p.kept.shown K P a.execution so.sized so.deep so.hides so.at in
    let shared = kept_shared so S E.parties_least in
    laid_out so S E.parties_least p.leaves_long E.work_long (omega (arith, p.reply_long))
    (in_row c.h_input.ensures c.gamma_inputs.ensures c.omega_input.ensures (c.pi_input.ensures.out_after ∙ pi_is (shared_for_Π shared) a.kappa.now)
    (c.psi_input.ensures K _ (shared_stated shared [] (c.pi_input.ensures.sums_after ∙ sym (append-nil _)) refl)))
