-- `places::fill`: f has returned what stands in the first i places. Assumes nothing.
use Rattle.std.specs.Prelude.{ℕ, ◌<◌, ◌≡◌, length, get_or}
use Rattle.execution.proofs.places.fill.Given as goal

abbrev pub invariant-loop-i : goal.invariant-loop-i
invariant-loop-i g l = (length l.out ≡ length l.initial.out) × ((k : ℕ) → k < l.i → goal.F-post g l.f k (get_or l.out k 0))
