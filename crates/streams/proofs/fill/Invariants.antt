-- `streams::fill` meets its contract. The invariant: the numbers before 32 b are written. Assumes nothing.
use Rattle.std.proofs.Common.{◌*◌, length}
use Rattle.streams.specs.Streams.{number}
use Rattle.streams.proofs.Laws.{Batches}
use Rattle.streams.proofs.fill.Given as goal

abbrev pub invariant-loop-b : goal.invariant-loop-b
invariant-loop-b l = Batches (length l.initial.out) l.out (32 * l.b) (number l.fn.modulus.q l.fn.seed l.fn.c)
