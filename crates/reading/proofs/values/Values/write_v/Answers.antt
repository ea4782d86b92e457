use native.Mathlib.Omega.{arith}
use Rattle.lists.specs.Tab.{done}
use Rattle.reading.proofs.values.Values.write_v.Goals as goal

pub returns : goal.returns
returns c = done c.loop-j.invariant (omega (arith, c.requires))
