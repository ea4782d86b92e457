-- `draw_masks` meets its contract. Assumes nothing.
use Rattle.std.proofs.Common.{rules, length, ◌/◌, ◌∙◌}
use Rattle.masks.proofs.Laws.{masks_next}
use Rattle.masks.proofs.draw_masks.Goals as goal

pub loop-i-preserved : goal.loop-i-preserved
loop-i-preserved c = (masks_next {k = length c.args.leaves.now / 16} (search rules) (search rules) c.draw_row.ensures c.loop-i.invariant.0, c.draw_row.ensures.long ∙ c.loop-i.invariant.1)
