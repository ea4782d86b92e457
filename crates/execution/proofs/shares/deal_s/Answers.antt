-- `shares::deal_s` meets its contract. Assumes nothing.
use Rattle.std.proofs.Common.{rules, arith, ap, ◌∙◌, ◌+◌, ◌*◌, ◌-◌, ◌≤◌}
use Rattle.execution.specs.Lists.{last_s}
use Rattle.execution.proofs.Laws.{inside, put_next, last_s_same}
use Rattle.execution.proofs.shares.deal_s.Goals as goal

pub loop-k-preserved : goal.loop-k-preserved
unfolding last_s
loop-k-preserved c =
    let l = c.loop-k in
    let s = c.args.sharing in
    let room : 3 * s.m * (s.parties - 1) + 3 * s.m ≤ 3 * s.m * s.parties = inside s.m s.parties (s.parties - 1) (omega (arith, s.parties_least)) in
    put_next l.invariant (rw l.invariant.long (omega (arith, room, c.requires, c.loop-k-test.true)))
    (c.less_others.ensures.is ∙ last_s_same s.modulus.q s.m s.parties l.k c.from.result _ _ _ (search rules) (omega arith) l.invariant.below
    ∙ ap (λ x. last_s s.modulus.q s.m s.parties c.args.work.now x l.k) c.from.ensures)
