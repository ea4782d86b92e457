-- s has been fed p, which is all but the chunks that are left.
use Rattle.std.proofs.Common.{◌≡◌, ℕ, List, ◌++◌}
use Rattle.sha.specs.State.{Fed}
use Rattle.lists.specs.Bytes.{words}
use Rattle.feed.proofs.numbers.Given as goal

abbrev pub invariant-loop-block : goal.invariant-loop-block
invariant-loop-block l = (l.block-iterator.size ≡ 16) × ((p : List ℕ) × (l.xs ≡ p ++ l.block-iterator.rest.now) × Fed l.initial.s (words p) l.s)
