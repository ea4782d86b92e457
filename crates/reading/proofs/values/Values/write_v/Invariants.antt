-- `write_v`: the places before j are written. Assumes nothing.
use Rattle.lists.specs.Tab.{Filling}
use Rattle.numbers.specs.Output.{v_of}
use Rattle.reading.specs.Found.{s_at}
use Rattle.reading.proofs.values.Values.write_v.Given as goal

abbrev pub invariant-loop-j : goal.invariant-loop-j
invariant-loop-j l = Filling l.self.key.numbers.m l.out l.j (v_of l.self.key.numbers.modulus.q (s_at l.self.key.numbers.m l.self.sums.now))
