-- `streams::numbers_of` meets its contract. The loop fills out from the front. Assumes nothing.
use Rattle.std.proofs.Common.{◌*◌, ◌/◌, ◌%◌, length}
use Rattle.lists.specs.Tab.{Filling}
use Rattle.aes_wide.specs.Wide.{part}
use Rattle.streams.specs.Streams.{word64}
use Rattle.streams.proofs.numbers_of.Given as goal

abbrev pub invariant-loop-i : goal.invariant-loop-i
invariant-loop-i l = Filling (length l.initial.out) l.out l.i (λ k. word64 (part l.x (k / 2)) (8 * (k % 2)) % l.modulus.q)
