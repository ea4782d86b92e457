-- The first k numbers are written.
use Rattle.std.proofs.Common.{◌≡◌, ◌*◌, length, take}
use Rattle.lists.specs.Bytes.{words}
use Rattle.bytes4.proofs.put_numbers.Given as goal

abbrev pub invariant-loop-k : goal.invariant-loop-k
invariant-loop-k l = (length l.out ≡ length l.initial.out) × (take (4 * l.k) l.out ≡ words (take l.k l.xs))
