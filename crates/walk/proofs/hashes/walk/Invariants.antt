-- `walk` goes over the executions in turn. Invariant: those before e are done, and none is refused. Assumes nothing.
use mathlib.Core.Path.{◌≡◌}
use Prim.Native.Nat.{◌-◌}
use lib.ListN.{length}
use Rattle.protocol.specs.Key.{Key}
use Rattle.protocol.specs.Transcript.{Parts}
use Rattle.walk.specs.Walk.{Going}
use Rattle.walk.specs.Runs.{Stands}
use Rattle.walk.proofs.hashes.walk.Given as goal

abbrev pub invariant-loop-e : goal.invariant-loop-e
invariant-loop-e l =
    ((K : Key) (P : Parts) → Stands l.run K P → Going K P l.run.executions (l.run.executions - l.run.openings) l.e l.here.rank l.here.at l.initial.lists l.lists)
    × (length l.lists ≡ length l.initial.lists)
    × (length l.work ≡ length l.initial.work)
