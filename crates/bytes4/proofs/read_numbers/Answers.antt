use Rattle.lists.specs.Tab.{done}
use Rattle.bytes4.proofs.read_numbers.Goals as goal

pub returns : goal.returns
returns c = done c.loop-j.invariant c.loop-j-test.false
