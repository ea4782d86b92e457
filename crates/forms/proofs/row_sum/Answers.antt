use Rattle.numbers.proofs.Sum.{loop_first}
use Rattle.forms.proofs.Laws.{row_next}
use Rattle.forms.proofs.row_sum.Goals as goal

pub loop-j-init : goal.loop-j-init
loop-j-init c = loop_first _ _

pub loop-j-preserved : goal.loop-j-preserved
loop-j-preserved c = row_next c.args.row.now c.args.secret.now c.args.modulus.q _ _ c.loop-j.invariant c.le32.ensures (rw c.from.ensures at c.mul_add-acc.ensures.is)
