-- `base` meets its contract. Assumes nothing.
use Rattle.std.proofs.Common.{arith, ◌≡◌}
use Rattle.numbers.specs.Output.{base_of}
use Rattle.numbers.proofs.Mod.{cong_refl, cong_mul}
use Rattle.numbers.proofs.Inverse.{q_positive}
use Rattle.numbers.proofs.Residue.{residue_first, residue_next}
use Rattle.outputs.proofs.Laws.{times}
use Rattle.outputs.proofs.base.Goals as goal

pub loop-l-init : goal.loop-l-init
loop-l-init c = residue_first _ (q_positive c.args.evaluation.modulus.listed)

pub loop-l-preserved : goal.loop-l-preserved
loop-l-preserved c = residue_next _ _ _ _ c.loop-l.invariant (cong_mul cong_refl (times _ c.inverse_of-inverse.ensures c.mul-t.ensures)) c.mul_add-acc.ensures

pub returns : goal.returns
unfolding base_of
returns c = let e : c.loop-l.l ≡ c.args.evaluation.n = omega arith in rw e at c.loop-l.invariant
