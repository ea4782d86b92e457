-- `join_party`: the numbers before j have party i's added, the others stand as they were. Assumes nothing.
use Rattle.joined.specs.Joined.{with_party}
use Rattle.joined.proofs.Laws.{Front}
use Rattle.joined.proofs.join_party.Given as goal

abbrev pub invariant-loop-j : goal.invariant-loop-j
invariant-loop-j l = Front (with_party l.sharing.modulus.q l.sharing.m l.i l.work l.initial.sums) l.initial.sums l.j l.sums
