-- `tree::reopen` meets its contract: the half without leaf h is that of `leaves`, the other the walk's own. The measure is the depth. Assumes nothing.
use Rattle.tree.proofs.+reopen.Given as goal

abbrev pub decreases-reopen : goal.decreases-reopen
decreases-reopen l = l.depth
