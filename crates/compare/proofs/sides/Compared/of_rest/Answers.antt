-- What the check leaves of `of_rest`. Assumes nothing.
use mathlib.Core.Path.{◌∙◌}
use mathlib.Core.List.{[], ◌∷◌}
use Rattle.compare.specs.Spots.{on_rest}
use Rattle.compare.specs.Between.{first_between}
use Rattle.compare.proofs.sides.Compared.of_rest.Goals as goal

pub returns : goal.returns
unfolding on_rest
returns c =
    c.first_of.ensures
    ∙ (λ j. first_between (c.listed-h_pi.ensures j ∷ c.opened-pi.ensures j ∷ c.listed-h_psi.ensures j ∷ c.opened-psi.ensures j ∷ []) c.args.self)
