-- The message is all that was fed.
use Rattle.std.proofs.Common.{[]}
use Rattle.sha.proofs.hash.Goals as goal

pub returns : goal.returns
returns c = c.finish.ensures _ (c.update.ensures.stands [] c.new-s.ensures)
