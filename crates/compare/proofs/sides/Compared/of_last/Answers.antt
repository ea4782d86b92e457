-- What the check leaves of `of_last`. Assumes nothing.
use mathlib.Core.Path.{sym, ◌∙◌, ap}
use mathlib.Core.List.{[], ◌∷◌}
use Rattle.compare.specs.Between.{first_between}
use Rattle.compare.specs.Spots.{first_spot}
use Rattle.compare.proofs.Laws.{last_closed, last_open}
use Rattle.compare.proofs.sides.Compared.of_last.Goals as goal

pub returns-then-not-open_in_both : goal.returns-then-not-open_in_both
unfolding first_spot
returns-then-not-open_in_both c =
    sym (ap (λ ss. first_between ss c.args.self) (last_closed _ _ _ _ (sym c.open_in_both.ensures ∙ c.if-not-open_in_both.true)))

pub returns : goal.returns
returns c =
    c.first_of.ensures
    ∙ ((λ j. first_between (c.opened.ensures j ∷ []) c.args.self)
    ∙ sym (ap (λ ss. first_between ss c.args.self) (last_open _ _ _ _ (sym c.open_in_both.ensures ∙ c.if-not-open_in_both.false))))
