-- `reply_start` adds up the replies of the kept before x. Invariant: `start` counts those before j, and `kept` their number. Assumes nothing.
use Prim.Native.Nat.{◌+◌, ◌*◌, ◌≤◌}
use mathlib.Core.Path.{◌≡◌}
use mathlib.Core.List.{[]}
use Rattle.numbers.specs.Sum.{sum}
use Rattle.protocol.specs.Prover.{place}
use Rattle.protocol.specs.Judge.{reply_size}
use Rattle.key.specs.Numbers.{key_with}
use Rattle.transcript.specs.Replies.{parts_with}
use Rattle.transcript.proofs.reply_start.Given as goal

abbrev pub invariant-loop-i : goal.invariant-loop-i
invariant-loop-i l = (l.start ≤ 16 + 1652 * l.i) × (l.kept ≤ l.i) × (l.kept ≡ place l.e l.i) × (l.start ≡ 16 + sum l.i (reply_size (key_with l.k []) (parts_with l.e l.hidden [])))
