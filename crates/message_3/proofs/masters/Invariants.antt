-- `masters` copies the opened executions' seeds. Invariant: those of the executions before the iterator's place stand in front.
-- Assumes nothing.
use mathlib.Core.Path.{◌≡◌}
use mathlib.Core.List.{[]}
use Prim.Native.Nat.{◌*◌, ◌≤◌}
use lib.ListN.{length}
use Rattle.lists.specs.Written.{Built}
use Rattle.lists.specs.Index.{count, pick, part}
use Rattle.protocol.specs.Prover.{opened}
use Rattle.message_3.proofs.masters.Given as goal

abbrev pub invariant-loop-x : goal.invariant-loop-x
invariant-loop-x l =
    let e = l.materials.given.e.now in
    (l.at ≡ 16 * count l.x-iterator.iter.start (opened e)) × (length l.out ≡ length l.initial.out)
    × Built (λ j. pick (opened e j) (part l.materials.given.seeds.now (16 * j) 16) []) l.x-iterator.iter.start l.at l.initial.out l.out
    × (l.x-iterator.iter.end ≡ l.materials.numbers.executions)
    × (l.x-iterator.p.0.now ≡ e) × (l.x-iterator.iter.start ≤ l.materials.numbers.executions)
