-- `Columns::outputs` meets its contract. Assumes nothing.
use Rattle.std.proofs.Common.{rules, arith, ◌∙◌}
use Rattle.lists.specs.Tab.{list_is_tab}
use Rattle.outputs.proofs.columns.Columns.outputs.Goals as goal

pub returns : goal.returns
returns c = list_is_tab _ _ _ (c.fill.ensures.long ∙ c.requires) (λ i h. let value = c.fill.ensures.filled i (omega (arith, h, c.requires)) in search rules)
