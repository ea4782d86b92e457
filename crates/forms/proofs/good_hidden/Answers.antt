-- `good_hidden` makes the three tests of a hidden list. Assumes nothing.
use Rattle.std.proofs.Common.{sym, ◌∙◌}
use borrow.Author.Tests.{ne_eqb}
use Rattle.lists.specs.TestLaws.{clash}
use Rattle.forms.proofs.Laws.{hidden_length, hidden_least, hidden_last}
use Rattle.forms.proofs.good_hidden.Goals.{then-hidden-kept, else-hidden-kept}
use Rattle.forms.proofs.good_hidden.Goals as goal

pub returns-then-positive : goal.returns-then-positive
returns-then-positive c =
    elim c.if-hidden-kept.branch [
      | then-hidden-kept w ↦ λ K ek eN. hidden_last K _ eN (w.if-hidden-kept.true ∙ sym ek) (sym w.positive.ensures ∙ sym w.value-is ∙ c.if-positive.true) c.at_most.ensures
      | else-hidden-kept w ↦ absurd (clash c.if-positive.true (w.value-is ∙ ne_eqb _ _ w.if-hidden-kept.false))
    ]

pub returns-else-positive : goal.returns-else-positive
returns-else-positive c =
    elim c.if-hidden-kept.branch [
      | then-hidden-kept w ↦ λ K ek eN. c.if-positive.false ∙ hidden_least K _ (sym w.positive.ensures ∙ sym w.value-is ∙ c.if-positive.false)
      | else-hidden-kept w ↦ λ K ek eN. c.if-positive.false ∙ hidden_length K _ (λ e. w.if-hidden-kept.false (e ∙ ek))
    ]
