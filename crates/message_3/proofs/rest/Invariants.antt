-- `rest` writes Ω and feeds Π of each kept execution. Invariant: those of the executions before the iterator's place stand in front, and in the hash.
-- Assumes nothing.
use mathlib.Core.Path.{◌≡◌}
use mathlib.Core.Bool.{not}
use Prim.Native.Nat.{◌*◌, ◌≤◌}
use lib.ListN.{length}
use Rattle.lists.specs.Index.{count}
use Rattle.protocol.specs.Prover.{opened}
use Rattle.message_3.specs.Parts.{KeptBuilt}
use Rattle.message_3.proofs.rest.Given as goal

abbrev pub invariant-loop-x : goal.invariant-loop-x
invariant-loop-x l =
    let k = l.materials.numbers in
    (l.at ≡ 32 * count l.x-iterator.iter.start (λ j. not (opened l.materials.given.e.now j))) × (length l.work ≡ length l.initial.work) × (length l.out ≡ length l.initial.out)
    × KeptBuilt k.modulus.q k.m k.parties k.depth l.x-iterator.iter.start l.at l.materials.given.e.now l.materials.given.seeds.now l.materials.given.secret.now l.materials.given.kappa.now l.initial.out l.out l.initial.s l.s
    × (l.x-iterator.iter.end ≡ k.executions) × (l.x-iterator.p.0.now ≡ l.materials.given.e.now) × (l.x-iterator.iter.start ≤ k.executions)
