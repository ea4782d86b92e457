-- `write_bits`: the places before j are written. Assumes nothing.
use Rattle.lists.specs.Tab.{Filling}
use Rattle.reading.specs.Found.{s_at}
use Rattle.reading.proofs.values.Values.write_bits.Given as goal

abbrev pub invariant-loop-j : goal.invariant-loop-j
invariant-loop-j l = Filling l.self.key.numbers.m l.out l.j (s_at l.self.key.numbers.m l.self.sums.now)
