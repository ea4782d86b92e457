-- `join_open` meets its contract. Assumes nothing.
use Rattle.std.proofs.Common.{rules, arith, ◌∙◌}
use Rattle.lists.specs.Tab.{list_is_tab}
use Rattle.joined.proofs.join_open.Goals as goal

pub returns : goal.returns
returns c = list_is_tab _ _ _ (c.fill.ensures.long ∙ c.requires.sums_long) (λ j h. let value = c.fill.ensures.filled j (omega (arith, h, c.requires.sums_long)) in search rules)
