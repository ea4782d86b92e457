-- `sha_core::next` is W_t of an array that holds the words before it. Assumes nothing.
use Rattle.sha_core.proofs.Laws.{w_sum}
use Rattle.sha_core.proofs.next.Goals as goal

pub returns : goal.returns
returns c b e = w_sum b c.args.w.now c.args.t _ _ c.requires.0 e c.lower.ensures c.lower-2.ensures
