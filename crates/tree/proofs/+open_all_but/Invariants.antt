-- `tree::open_all_but` meets its contract: the walk goes on below one child, and the other child's seed stands before or after it. The measure is the depth.
-- Assumes nothing.
use Rattle.tree.proofs.+open_all_but.Given as goal

abbrev pub decreases-open_all_but : goal.decreases-open_all_but
decreases-open_all_but l = l.depth
