-- `answers::pi_of` meets its contract. Invariant: the rows below k are fed, and their sums stand in front. Assumes nothing.
use Prim.Native.Nat.{◌%◌}
use Rattle.lists.specs.Tab.{Filling}
use Rattle.lists.specs.Index.{cat}
use Rattle.lists.specs.Bytes.{nums}
use Rattle.numbers.specs.Sum.{sum}
use Rattle.sha.specs.State.{Fed}
use Rattle.execution.specs.Lists.{alpha_at}
use Rattle.views.proofs.answers.pi_of.Given as goal

abbrev pub invariant-loop-k : goal.invariant-loop-k
invariant-loop-k l =
    let s = l.fn.shares in
    Fed l.initial.s (cat l.k (λ j. nums s.parties (alpha_at s.modulus.q s.m s.hidden l.given s.work.now j))) l.s
    × Filling s.m l.front l.k (λ j. sum s.parties (alpha_at s.modulus.q s.m s.hidden l.given s.work.now j) % s.modulus.q)
