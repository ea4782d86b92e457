-- `pi_input`: the rows below k are written, and their sums stand in front. Assumes nothing.
use Rattle.std.specs.Prelude.{◌*◌, ◌%◌}
use Rattle.lists.specs.Tab.{Filling}
use Rattle.lists.specs.Bytes.{nums}
use Rattle.lists.specs.Written.{Built}
use Rattle.numbers.specs.Sum.{sum}
use Rattle.execution.specs.Lists.{alpha_at}
use Rattle.execution_inputs.proofs.pi_input.Given as goal

abbrev pub invariant-loop-k : goal.invariant-loop-k
invariant-loop-k l =
    let s = l.shares in
    record {
      rows : Built (λ j. nums s.parties (alpha_at s.modulus.q s.m s.hidden l.given s.work.now j)) l.k (l.width * l.k) l.initial.rows l.rows;
      columns : Filling s.m l.sums l.k (λ j. sum s.parties (alpha_at s.modulus.q s.m s.hidden l.given s.work.now j) % s.modulus.q);
    }
