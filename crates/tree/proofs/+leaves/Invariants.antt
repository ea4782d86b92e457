-- `tree::leaves` meets its contract: the two calls fill the two halves of the list. The measure is the depth. Assumes nothing.
use Rattle.tree.proofs.+leaves.Given as goal

abbrev pub decreases-leaves : goal.decreases-leaves
decreases-leaves l = l.depth
