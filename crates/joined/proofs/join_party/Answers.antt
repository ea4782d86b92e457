-- `join_party` meets its contract. Assumes nothing.
use Rattle.std.proofs.Common.{◌<◌, ◌+◌, ◌%◌, length, refl, ap, ◌∙◌, arith}
use Rattle.joined.proofs.Laws.{front-none, front_at, front-next, party_is}
use Rattle.joined.proofs.join_party.Goals as goal

pub loop-j-init : goal.loop-j-init
loop-j-init c = front-none _ _

pub loop-j-preserved : goal.loop-j-preserved
loop-j-preserved c =
    let l = c.loop-j in
    let a = c.args in
    let h : l.j < length a.sums.now = omega (arith, l.auto.sums, c.loop-j-test.true) in
    front-next l.invariant h
    (party_is a.sharing.modulus.q a.sharing.m a.i l.j _ _ _ a.work.now a.sums.now (c.from.ensures ∙ front_at l.invariant h) refl
    (c.reduced.ensures.is ∙ ap (λ y. (c.from.result + y) % a.sharing.modulus.q) c.from-in-loop-j.ensures))
