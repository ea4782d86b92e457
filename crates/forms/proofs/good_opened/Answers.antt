-- `good_opened` makes the three tests of E. Assumes nothing.
use Rattle.std.proofs.Common.{sym, ◌∙◌}
use borrow.Author.Tests.{ne_eqb}
use Rattle.lists.specs.TestLaws.{clash}
use Rattle.forms.proofs.Laws.{opened_length, opened_rises, opened_last}
use Rattle.forms.proofs.good_opened.Goals.{then-e-opened, else-e-opened}
use Rattle.forms.proofs.good_opened.Goals as goal

pub returns-then-rising : goal.returns-then-rising
returns-then-rising c =
    elim c.if-e-opened.branch [
      | then-e-opened w ↦ λ K eτ eM. opened_last K _ eM (w.if-e-opened.true ∙ sym eτ) (sym w.rising.ensures ∙ sym w.value-is ∙ c.if-rising.true) c.at_most.ensures
      | else-e-opened w ↦ absurd (clash c.if-rising.true (w.value-is ∙ ne_eqb _ _ w.if-e-opened.false))
    ]

pub returns-else-rising : goal.returns-else-rising
returns-else-rising c =
    elim c.if-e-opened.branch [
      | then-e-opened w ↦ λ K eτ eM. c.if-rising.false ∙ opened_rises K _ (sym w.rising.ensures ∙ sym w.value-is ∙ c.if-rising.false)
      | else-e-opened w ↦ λ K eτ eM. c.if-rising.false ∙ opened_length K _ (λ e. w.if-e-opened.false (e ∙ eτ))
    ]
