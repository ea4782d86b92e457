-- `sized` tests the three lengths one after the other. Assumes nothing.
use Rattle.std.proofs.Common.{sym, ◌∙◌, rules}
use borrow.Author.Tests.{eqb-true}
use Rattle.prover.proofs.Laws.{sized_1, sized_2, sized_3}
use Rattle.prover.proofs.checks.sized.Goals.{then-given-k, else-given-k}
use Rattle.prover.proofs.checks.sized.Goals as goal

pub returns-then-given-k-2 : goal.returns-then-given-k-2
returns-then-given-k-2 c =
    elim c.if-given-k.branch [
      | then-given-k w ↦ sized_3 w.if-given-k.true (eqb-true _ _ (sym w.value-is ∙ c.if-given-k-2.true))
      | else-given-k w ↦ search rules
    ]

pub returns-else-given-k-2 : goal.returns-else-given-k-2
returns-else-given-k-2 c =
    rw c.if-given-k-2.false
    (elim c.if-given-k.branch [
      | then-given-k w ↦ sized_2 w.if-given-k.true (λ e. search rules)
      | else-given-k w ↦ sized_1 w.if-given-k.false
    ])
