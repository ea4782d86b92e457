-- `front` reads the six numbers of the first 24 bytes. Assumes nothing.
use Rattle.std.proofs.Common.{◌∙◌}
use Rattle.key.proofs.Laws.{front_is}
use Rattle.key.proofs.front.Goals as goal

pub returns : goal.returns
returns c = c.read_numbers.ensures ∙ front_is c.args.key.now c.requires
