-- `replies` writes the reply of each kept execution. Invariant: the replies of the executions before the iterator's place stand in front. Assumes nothing.
use mathlib.Core.Path.{◌≡◌}
use Prim.Native.Nat.{◌≤◌}
use lib.ListN.{length}
use Rattle.protocol.specs.Prover.{place}
use Rattle.message_7.specs.Parts.{replies_length, RepliesBuilt}
use Rattle.message_7.proofs.replies.Given as goal

abbrev pub invariant-loop-x : goal.invariant-loop-x
invariant-loop-x l =
    let k = l.materials.numbers in
    (l.kept ≤ l.x-iterator.iter.start) × (l.kept ≡ place l.materials.given.e.now l.x-iterator.iter.start) × (l.at ≡ replies_length k k.depth l.materials.given.e.now l.hidden l.x-iterator.iter.start) × (length l.work ≡ length l.initial.work) × (length l.out ≡ length l.initial.out)
    × RepliesBuilt k l.x-iterator.iter.start l.at l.materials.given.seeds.now l.materials.given.secret.now l.materials.given.e.now l.seed l.hidden l.entries l.initial.out l.out
    × (l.x-iterator.iter.end ≡ k.executions) × (l.x-iterator.p.0.now ≡ l.materials.given.e.now) × (l.x-iterator.iter.start ≤ k.executions)
