-- The first j numbers stand.
use Rattle.std.proofs.Common.{length}
use Rattle.lists.specs.Tab.{Filling}
use Rattle.lists.specs.Bytes.{num}
use Rattle.bytes4.proofs.read_numbers.Given as goal

abbrev pub invariant-loop-j : goal.invariant-loop-j
invariant-loop-j l = Filling (length l.initial.out) l.out l.j (num l.bytes)
