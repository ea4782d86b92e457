use Rattle.std.proofs.Common.{arith, rules}
use Rattle.streams.proofs.Laws.{batches_next, batches_done, number_from, recounted}
use Rattle.streams.proofs.fill.Goals as goal

pub loop-b-preserved : goal.loop-b-preserved
loop-b-preserved c =
    let l = c.loop-b in
    let key = c.expand-w in
    let numbers = c.from_block in
    recounted (omega arith)
    (batches_next c.min-end.result numbers.new.out _ l.invariant (omega arith) (search rules) numbers.ensures
    (λ k. number_from c.args.modulus.q c.args.c l.b k c.args.seed.now key.result key.ensures))

pub returns : goal.returns
returns c = batches_done c.loop-b.invariant (omega arith)
