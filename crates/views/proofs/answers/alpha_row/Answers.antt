-- `answers::alpha_row` meets its contract. Assumes nothing.
use Rattle.std.proofs.Common.{rules, arith, ◌∙◌}
use Rattle.lists.specs.Tab.{list_is_tab}
use Rattle.views.proofs.answers.alpha_row.Goals as goal

pub returns : goal.returns
returns c = list_is_tab _ _ _ (c.fill.ensures.long ∙ c.requires.out_long) (λ i h. let value = c.fill.ensures.filled i (omega (arith, h, c.requires.out_long)) in search rules)
