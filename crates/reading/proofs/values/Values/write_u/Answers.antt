use native.Mathlib.Omega.{arith}
use Rattle.lists.specs.Tab.{done}
use Rattle.reading.proofs.values.Values.write_u.Goals as goal

pub returns : goal.returns
returns c = done c.loop-l.invariant (omega (arith, c.requires))
