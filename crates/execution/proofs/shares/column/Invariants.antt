-- `shares::column` meets its contract. Invariant: the sum over the places passed. Assumes nothing.
use mathlib.Core.Path.{◌≡◌}
use Prim.Native.Nat.{◌+◌, ◌*◌, ◌≤◌}
use lib.ListN.{get_or}
use Rattle.numbers.specs.Sum.{sum}
use Rattle.execution.proofs.shares.column.Given as goal

abbrev pub invariant-loop-i : goal.invariant-loop-i
invariant-loop-i l = (l.total ≡ sum l.i (λ i. get_or l.work (l.stride * i + l.start) 0)) × (l.total ≤ l.i * 4294967296)
