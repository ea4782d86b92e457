-- What the check leaves of `of_hashes`. Assumes nothing.
use mathlib.Core.Path.{◌∙◌}
use mathlib.Core.List.{[], ◌∷◌}
use Rattle.compare.specs.Spots.{on_hashes}
use Rattle.compare.specs.Between.{first_between}
use Rattle.compare.proofs.sides.Compared.of_hashes.Goals as goal

pub returns : goal.returns
unfolding on_hashes
returns c = c.first_of.ensures ∙ (λ j. first_between (c.listed-h_gamma.ensures j ∷ c.opened-h.ensures j ∷ []) c.args.self)
