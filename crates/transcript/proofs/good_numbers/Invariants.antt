-- `good_numbers` walks the replies of the kept. Invariant: the replies before x are good, the next one begins at `at`, and `kept` of them are passed.
-- Assumes nothing.
use Prim.Native.Nat.{◌+◌, ◌*◌, ◌≤◌}
use mathlib.Core.Path.{◌≡◌}
use mathlib.Core.Bool.{true}
use mathlib.Core.List.{[]}
use Rattle.lists.specs.Index.{every}
use Rattle.numbers.specs.Sum.{sum}
use Rattle.protocol.specs.Prover.{place}
use Rattle.protocol.specs.Judge.{reply_size}
use Rattle.key.specs.Numbers.{key_with}
use Rattle.transcript.specs.Replies.{parts_with, reply_good}
use Rattle.transcript.proofs.good_numbers.Given as goal

abbrev pub invariant-loop-x : goal.invariant-loop-x
invariant-loop-x l =
    (l.at ≤ 16 + 1652 * l.x) × (l.kept ≤ l.x) × (l.kept ≡ place l.e l.x)
    × (l.at ≡ 16 + sum l.x (reply_size (key_with l.k []) (parts_with l.e l.hidden l.replies))) × (every l.x (reply_good (key_with l.k []) (parts_with l.e l.hidden l.replies)) ≡ true)
