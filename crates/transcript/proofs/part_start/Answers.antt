-- `part_start` adds up the lengths before part i. Assumes nothing.
use Rattle.std.proofs.Common.{sym, arith}
use Rattle.transcript.specs.Layout.{start_first}
use Rattle.transcript.proofs.Laws.{start-more}
use Rattle.transcript.proofs.part_start.Goals as goal

pub loop-j-init : goal.loop-j-init
loop-j-init c = (omega arith, λ K of. sym (start_first K))

pub loop-j-preserved : goal.loop-j-preserved
loop-j-preserved c =
    (omega (arith, c.part_size-at.ensures.0, c.loop-j.invariant.0), λ K of. start-more K _ _ _ (c.loop-j.invariant.1 K of) (c.part_size-at.ensures.1 K of))
