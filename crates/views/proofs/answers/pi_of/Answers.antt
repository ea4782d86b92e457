-- `answers::pi_of` meets its contract. Assumes nothing.
use Rattle.std.proofs.Common.{rules, arith, ap, ◌≡◌, ◌<◌, ◌++◌, drop}
use Rattle.lists.specs.Tab.{start, more, done}
use Rattle.lists.specs.Index.{cat}
use Rattle.sha.specs.State.{fed_nil}
use Rattle.views.proofs.Laws.{fed_next, fed_last}
use Rattle.views.proofs.answers.pi_of.Goals as goal

pub loop-k-init : goal.loop-k-init
unfolding cat
loop-k-init c = (fed_nil _, start _ _ (search rules))

pub loop-k-preserved : goal.loop-k-preserved
loop-k-preserved c =
    let l = c.loop-k in
    let turn : l.k < c.args.shares.m = search rules in (
      fed_next _ _ l.invariant.0 c.update.ensures c.alpha_bytes.ensures.out_after,
      more l.invariant.1 turn c.alpha_bytes.ensures.value,
    )

pub returns-clause-value : goal.returns-clause-value
returns-clause-value c =
    let e : c.loop-k.k ≡ c.args.shares.m = search rules in
    c.finish.ensures _ (c.begin-s.ensures.stands _ _ (fed_last _ _ _ c.loop-k.invariant.0 e c.update-2.ensures c.block_of.ensures))

pub returns-clause-sums_after : goal.returns-clause-sums_after
returns-clause-sums_after c = ap (λ x. x ++ drop c.args.shares.m c.args.sums.now) (done c.loop-k.invariant.1 (omega arith))
