-- `gamma_inputs` meets its contract. Assumes nothing.
use Rattle.std.proofs.Common.{rules, ap, get_or, take, length, [], get_or-take, length-take-le, ◌<◌, ◌*◌, ◌-◌, ◌∙◌, ◌≡◌, arith}
use Rattle.lists.specs.Written.{built_at, built_item, built_none}
use Rattle.lists.proofs.Chains.{chunk_at}
use Rattle.views.proofs.Laws.{within}
use Rattle.inputs.proofs.Laws.{other_in, last_in, built_last}
use Rattle.inputs.proofs.gamma_inputs.Goals as goal

pub loop-i-init : goal.loop-i-init
loop-i-init c = built_none _ _

pub loop-i-preserved : goal.loop-i-preserved
loop-i-preserved c =
    let l = c.loop-i in
    let a = c.args.lists in
    let long : length (take (a.parties - 1) c.as_chunks.result.0.now) ≡ a.parties - 1 = length-take-le (a.parties - 1) c.as_chunks.result.0.now (omega (arith, c.as_chunks.ensures.front_len, a.leaves_long)) in
    let turn : l.i < a.parties - 1 = omega (arith, long, c.loop-i-test.true) in
    built_at (omega arith)
    (built_item 32 _ l.invariant (c.gamma_input.ensures ∙ other_in a.m a.parties c.args.execution l.i a.leaves.now a.work.now (get_or-take (a.parties - 1) c.as_chunks.result.0.now l.i [] turn ∙ (ap (λ x. get_or x l.i []) c.as_chunks.ensures.front ∙ chunk_at 16 _ l.i a.leaves.now (omega (arith, a.leaves_long, turn)))) (omega (arith, turn)))
    (c.gamma_input.auto.out ∙ within l.out (32 * l.i) 32 (omega (arith, turn))))

pub returns : goal.returns
returns c =
    let l = c.loop-i in
    let a = c.args.lists in
    let e : l.i ≡ a.parties - 1 = search rules in
    built_last (rw e at l.invariant) (omega (arith, a.parties_least)) l.auto.out (omega arith) (search rules)
    (c.gamma_input-2.ensures ∙ last_in a.m a.parties c.args.execution a.leaves.now a.work.now (ap (λ l. get_or l (a.parties - 1) []) c.as_chunks.ensures.front ∙ chunk_at 16 _ (a.parties - 1) a.leaves.now (omega (arith, a.leaves_long, a.parties_least))) a.parties_least)
