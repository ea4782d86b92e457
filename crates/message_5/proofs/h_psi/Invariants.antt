-- `h_psi` feeds Ψ of each kept execution. Invariant: the hash has those of the executions before the iterator's place. Assumes nothing.
use mathlib.Core.Path.{◌≡◌}
use Prim.Native.Nat.{◌≤◌}
use lib.ListN.{length}
use Rattle.message_5.specs.Parts.{AllFed}
use Rattle.message_5.proofs.h_psi.Given as goal

abbrev pub invariant-loop-x : goal.invariant-loop-x
invariant-loop-x l =
    let k = l.materials.numbers in
    (length l.work ≡ length l.initial.work)
    × AllFed k.modulus.q k.n k.m k.parties k.depth l.x-iterator.iter.start l.materials.given.e.now l.materials.given.seeds.now l.materials.given.secret.now l.materials.given.kappa.now l.seed l.entries l.initial.s l.s
    × (l.x-iterator.iter.end ≡ k.executions) × (l.x-iterator.p.0.now ≡ l.materials.given.e.now) × (l.x-iterator.iter.start ≤ k.executions)
