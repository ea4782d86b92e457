-- `write_u`: the places before l are written. Assumes nothing.
use Rattle.lists.specs.Tab.{Filling}
use Rattle.reading.specs.Found.{u_at}
use Rattle.reading.specs.Keyed.{keyed}
use Rattle.reading.proofs.values.Values.write_u.Given as goal

abbrev pub invariant-loop-l : goal.invariant-loop-l
invariant-loop-l l = Filling l.self.key.numbers.n l.out l.l (u_at (keyed l.self) l.self.sums.now)
