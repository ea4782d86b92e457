use Rattle.std.proofs.Common.{ℕ, ◌≡◌, ◌+◌, ◌-◌, ◌≤◌, ◌<◌, refl, sym, ◌∙◌, ap, not, true, false, arith, rules}
use Rattle.lists.specs.CatLaws.{part_length}
use Rattle.protocol.specs.Prover.{opened}
use Rattle.transcript.specs.Replies.{place_kept, place-first}
use Rattle.prover.proofs.Chosen.{came, ended, was_true}
use Rattle.message_7.specs.Parts.{reply_length, replies_length}
use Rattle.message_7.proofs.Laws.{size_is, reply_puts, replies_none, replies_skip, replies_kept, replies_all, at_first, at_skip, at-kept, hides_at, turn_of, turn_7}
use Rattle.message_7.proofs.replies.Goals as goal

pub loop-x-init : goal.loop-x-init
loop-x-init c =
    let s : c.into_iter-x-iterator.result.iter.start ≡ 0 = search rules in
    let e : c.into_iter-x-iterator.result.iter.end ≡ c.args.materials.numbers.executions = search rules in
    let p : c.into_iter-x-iterator.result.p.0.now ≡ c.args.materials.given.e.now = search rules in
    (omega (arith, s), rw s (sym (place-first _)), rw s (at_first _ _ _ _), refl, refl, rw s (replies_none _), e, p, omega (arith, s))

pub overflow_add-end : goal.overflow_add-end
overflow_add-end c =
    let a = c.args in
    let k = a.materials.numbers in
    let l = c.loop-x in
    let i = l.invariant in
    let E = a.materials.given.e.now in
    let w = came _ (λ y. not (opened l.x-iterator.p.0.now y)) l.x-iterator.p (λ x b q h. search rules) l.x-iterator c.next.new.self c.in-Some.x refl c.in-Some.ensures.steps in
    let t = turn_of k E a.hidden.now i.7 i.6 w.from w.below w.fails w.holds i.1 i.2 in
    let s = turn_7 k E a.hidden.now t c.hidden_at-h.ensures c.reply_size.ensures.1 c.requires.out_long in
    omega (arith, s.1)

pub slice_bounds-dealt_reply-end-in-loop-x : goal.slice_bounds-dealt_reply-end-in-loop-x
slice_bounds-dealt_reply-end-in-loop-x c =
    let a = c.args in
    let k = a.materials.numbers in
    let l = c.loop-x in
    let i = l.invariant in
    let E = a.materials.given.e.now in
    let w = came _ (λ y. not (opened l.x-iterator.p.0.now y)) l.x-iterator.p (λ x b q h. search rules) l.x-iterator c.next.new.self c.in-Some.x refl c.in-Some.ensures.steps in
    let t = turn_of k E a.hidden.now i.7 i.6 w.from w.below w.fails w.holds i.1 i.2 in
    let s = turn_7 k E a.hidden.now t c.hidden_at-h.ensures c.reply_size.ensures.1 c.requires.out_long in
    omega (arith, s.1, i.4)

pub dealt_reply-requires-clause-out_long : goal.dealt_reply-requires-clause-out_long
unfolding reply_length
dealt_reply-requires-clause-out_long c =
    let a = c.args in
    let k = a.materials.numbers in
    let l = c.loop-x in
    let i = l.invariant in
    let E = a.materials.given.e.now in
    let w = came _ (λ y. not (opened l.x-iterator.p.0.now y)) l.x-iterator.p (λ x b q h. search rules) l.x-iterator c.next.new.self c.in-Some.x refl c.in-Some.ensures.steps in
    let t = turn_of k E a.hidden.now i.7 i.6 w.from w.below w.fails w.holds i.1 i.2 in
    let s = turn_7 k E a.hidden.now t c.hidden_at-h.ensures c.reply_size.ensures.1 c.requires.out_long in
    let n = c.reply_size.result in
    let z : l.at + n - l.at ≡ n = omega arith in
    rw z (part_length l.out l.at n (omega (arith, s.1, i.4))) ∙ size_is k k.deep c.reply_size.ensures.1

pub loop-x-preserved : goal.loop-x-preserved
loop-x-preserved c =
    let a = c.args in
    let k = a.materials.numbers in
    let l = c.loop-x in
    let i = l.invariant in
    let E = a.materials.given.e.now in
    let w = came _ (λ y. not (opened l.x-iterator.p.0.now y)) l.x-iterator.p (λ x b q h. search rules) l.x-iterator c.next.new.self c.in-Some.x refl c.in-Some.ensures.steps in
    let t = turn_of k E a.hidden.now i.7 i.6 w.from w.below w.fails w.holds i.1 i.2 in
    let s = turn_7 k E a.hidden.now t c.hidden_at-h.ensures c.reply_size.ensures.1 c.requires.out_long in
    let r = c.dealt_reply.ensures in
    let puts = reply_puts {k = k} {x = c.in-Some.x} {at = l.at} {n = c.reply_size.result} {seeds = a.materials.given.seeds.now} {o = l.out} {ys = c.dealt_reply.new.out} k.deep c.hidden_at-h.ensures (rw c.master.ensures at r.dealt_reply) (omega arith) in (
      omega (arith, i.0, w.next, w.from),
      rw w.next (ap (λ j. j + 1) t.rank ∙ sym (place_kept _ _ t.kept)),
      rw w.next (at-kept k k.depth E a.hidden.now _ l.at _ l.kept t.starts t.kept t.rank (ap (λ n. l.at + n) s.0)),
      search rules,
      search rules,
      rw w.next (replies_kept (replies_skip _ w.from t.passed i.5) t.kept t.rank puts),
      w.end ∙ i.6,
      ap (λ p. p.0.now) w.callee ∙ i.7,
      omega (arith, w.next, t.below),
    )

pub returns : goal.returns
returns c =
    let l = c.loop-x in
    let i = l.invariant in
    let a = c.args in
    let k = a.materials.numbers in
    let E = a.materials.given.e.now in
    let none : (y : ℕ) → l.x-iterator.iter.start ≤ y → y < l.x-iterator.iter.end → not (opened E y) ≡ false = rw i.7 at (ended _ (λ y. not (opened l.x-iterator.p.0.now y)) l.x-iterator.p (λ x b q h. search rules) l.x-iterator c.next.new.self refl c.in-None.ensures.steps) in
    let after : (y : ℕ) → l.x-iterator.iter.start ≤ y → y < k.executions → opened E y ≡ true = λ y a b. was_true _ (none y a (omega (arith, b, i.6))) in
    let w : l.at ≡ replies_length k k.depth E a.hidden.now k.executions = at_skip k k.depth E a.hidden.now _ k.executions l.at i.8 after i.2 in
    replies_all (replies_skip k.executions i.8 after i.5) refl (omega (arith, w, c.requires.out_long))

pub overflow_sub-h : goal.overflow_sub-h
overflow_sub-h c =
    let a = c.args in
    let k = a.materials.numbers in
    let l = c.loop-x in
    let i = l.invariant in
    let E = a.materials.given.e.now in
    let w = came _ (λ y. not (opened l.x-iterator.p.0.now y)) l.x-iterator.p (λ x b q h. search rules) l.x-iterator c.next.new.self c.in-Some.x refl c.in-Some.ensures.steps in
    let t = turn_of k E a.hidden.now i.7 i.6 w.from w.below w.fails w.holds i.1 i.2 in
    let g = hides_at c.requires.hides t.below t.kept t.rank in
    omega (arith, g.0, c.hidden_at-h.ensures)

pub master-requires : goal.master-requires
master-requires c =
    let a = c.args in
    let k = a.materials.numbers in
    let l = c.loop-x in
    let i = l.invariant in
    let E = a.materials.given.e.now in
    let w = came _ (λ y. not (opened l.x-iterator.p.0.now y)) l.x-iterator.p (λ x b q h. search rules) l.x-iterator c.next.new.self c.in-Some.x refl c.in-Some.ensures.steps in
    let t = turn_of k E a.hidden.now i.7 i.6 w.from w.below w.fails w.holds i.1 i.2 in
    omega (arith, t.below, a.materials.seeds_long)

pub dealt_reply-requires-clause-execution_bound : goal.dealt_reply-requires-clause-execution_bound
dealt_reply-requires-clause-execution_bound c =
    let a = c.args in
    let k = a.materials.numbers in
    let l = c.loop-x in
    let i = l.invariant in
    let E = a.materials.given.e.now in
    let w = came _ (λ y. not (opened l.x-iterator.p.0.now y)) l.x-iterator.p (λ x b q h. search rules) l.x-iterator c.next.new.self c.in-Some.x refl c.in-Some.ensures.steps in
    let t = turn_of k E a.hidden.now i.7 i.6 w.from w.below w.fails w.holds i.1 i.2 in
    omega (arith, t.below, k.limits.executions_most)

pub dealt_reply-requires-clause-hidden_lt_parties : goal.dealt_reply-requires-clause-hidden_lt_parties
dealt_reply-requires-clause-hidden_lt_parties c =
    let a = c.args in
    let k = a.materials.numbers in
    let l = c.loop-x in
    let i = l.invariant in
    let E = a.materials.given.e.now in
    let w = came _ (λ y. not (opened l.x-iterator.p.0.now y)) l.x-iterator.p (λ x b q h. search rules) l.x-iterator c.next.new.self c.in-Some.x refl c.in-Some.ensures.steps in
    let t = turn_of k E a.hidden.now i.7 i.6 w.from w.below w.fails w.holds i.1 i.2 in
    let g = hides_at c.requires.hides t.below t.kept t.rank in
    omega (arith, g.0, g.1, c.hidden_at-h.ensures)
