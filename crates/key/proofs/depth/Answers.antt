-- `depth` is the binary logarithm of a listed number. Assumes nothing.
use Rattle.key.proofs.Laws.{depth_is}
use Rattle.key.proofs.depth.Goals as goal

pub returns : goal.returns
returns c = depth_is _ _ c.requires c.ilog2.ensures.power_le c.ilog2.ensures.next_power_gt
