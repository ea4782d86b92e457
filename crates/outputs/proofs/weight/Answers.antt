-- `weight` meets its contract. Assumes nothing.
use Rattle.std.proofs.Common.{rules, arith, ◌≡◌}
use Rattle.outputs.proofs.Laws.{split_first, split_next, weight_done}
use Rattle.outputs.proofs.weight.Goals as goal

pub loop-l-init : goal.loop-l-init
loop-l-init c = split_first _

pub loop-l-preserved : goal.loop-l-preserved
loop-l-preserved c = split_next _ c.loop-l.invariant (search rules) (search rules) c.add.ensures.low c.add.ensures.high

pub returns : goal.returns
returns c = let e : c.loop-l.l ≡ c.args.evaluation.n = omega arith in weight_done _ _ _ _ (rw e at c.loop-l.invariant) c.joined-total.ensures c.sub.ensures
