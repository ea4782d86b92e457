use Rattle.std.proofs.Common.{◌≡◌, arith}
use Rattle.aes_wide.proofs.Laws.{one_round}
use Rattle.aes_wide.proofs.rounds_from.Goals as goal

pub loop-k-preserved : goal.loop-k-preserved
loop-k-preserved c = λ s before. one_round c.args.w.now c.loop-k.u c.loop-k.k s (c.loop-k.invariant s before) c.round.ensures

pub returns : goal.returns
returns c = λ s before. let nine : c.loop-k.k ≡ 9 = omega arith in rw nine at (c.loop-k.invariant s before)
