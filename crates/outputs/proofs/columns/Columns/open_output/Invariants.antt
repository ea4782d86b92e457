-- `open_output`: the sum holds the terms of the first k columns. Assumes nothing.
use Rattle.numbers.specs.Sum.{sum}
use Rattle.outputs.specs.Steps.{column_at}
use Rattle.outputs.proofs.Laws.{Split}
use Rattle.outputs.proofs.columns.Columns.open_output.Given as goal

abbrev pub invariant-loop-k : goal.invariant-loop-k
invariant-loop-k l =
    let c = l.self in
    Split (sum l.k (column_at c.shares.modulus.q c.shares.m c.weights.now c.gammas.now c.alphas.now c.shares.work.now l.i)) l.k l.sum.lo l.sum.hi
