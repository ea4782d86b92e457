use mathlib.Core.Path.{sym, ◌∙◌}
use Rattle.compare.proofs.Laws.{cat-start, cat-next, cat_stops}
use Rattle.compare.proofs.sides.Compared.of_parties.Goals as goal

pub loop-i-init : goal.loop-i-init
loop-i-init c = cat-start _ _ _ _ _

pub returns-in-Some : goal.returns-in-Some
returns-in-Some c =
    sym (cat_stops _ _ _ _ _ _ c.loop-i.i c.loop-i-test.true c.loop-i.invariant (sym c.of_party.ensures ∙ c.in-Some.is))

pub loop-i-preserved : goal.loop-i-preserved
loop-i-preserved c = cat-next _ _ _ _ _ c.loop-i.i c.loop-i.invariant (sym c.of_party.ensures ∙ c.in_default.is)
