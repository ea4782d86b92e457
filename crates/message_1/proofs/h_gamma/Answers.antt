use Rattle.std.proofs.Common.{◌≡◌, arith, refl, rules}
use Rattle.message_1.proofs.Laws.{h_none, h_more, h_all}
use Rattle.message_1.proofs.h_gamma.Goals as goal

pub loop-x-init : goal.loop-x-init
loop-x-init c = (refl, h_none _ _ _ _ _ _)

pub loop-x-preserved : goal.loop-x-preserved
loop-x-preserved c =
    let l = c.loop-x in
    let h = c.opened_hash.ensures in
    (search rules, h_more _ l.invariant.1 (rw c.master.ensures at h.opened_hash) c.update.ensures)

pub returns : goal.returns
returns c =
    let l = c.loop-x in
    let e : l.x ≡ c.args.k.executions = omega arith in
    h_all _ c.begin-s.ensures l.invariant.1 e c.finish.ensures
