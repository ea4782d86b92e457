-- `psi_input` meets its contract. Assumes nothing.
use Rattle.std.specs.Prelude.{ℕ}
use Rattle.std.proofs.Common.{sym, subst, replicate, length-take-le}
use Rattle.outputs.specs.Stated.{Stated, outputs_are}
use Rattle.execution_inputs.proofs.Laws.{psi_in}
use Rattle.execution_inputs.proofs.psi_input.Goals as goal

pub returns : goal.returns
returns c =
    let a = c.args in
    let E = a.evaluation in
    λ K v so.
    let st = subst (λ (x : ℕ). Stated E.modulus.q E.n E.m E.parties E.hidden a.execution x E.entries.now a.sums.now E.work.now K v) (sym c.le32-shown.ensures) so in
    psi_in st a.kappa.now a.seed.now _ (length-take-le _ (replicate 32 0) E.parties_most) (outputs_are st a.seed.now _ c.outputs.ensures) c.put_with_block.ensures
