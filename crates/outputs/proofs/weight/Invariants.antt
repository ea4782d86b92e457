-- `weight`: the sum holds the first l products β(l) A(l, k). Assumes nothing.
use Rattle.std.specs.Prelude.{◌*◌}
use Rattle.numbers.specs.Sum.{sum}
use Rattle.outputs.specs.Steps.{at, cell}
use Rattle.outputs.proofs.Laws.{Split}
use Rattle.outputs.proofs.weight.Given as goal

abbrev pub invariant-loop-l : goal.invariant-loop-l
invariant-loop-l l = Split (sum l.l (λ j. at l.betas j * cell l.evaluation.m l.evaluation.entries.now j l.k)) l.l l.sum.lo l.sum.hi
