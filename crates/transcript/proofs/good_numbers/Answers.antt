-- `good_numbers`: what is known in the turn of a kept execution. Assumes nothing.
use Rattle.std.proofs.Common.{◌≡◌, sym, ap, ◌∙◌, refl, [], ℕ, ◌+◌, true, arith, rules}
use Rattle.lists.specs.TestLaws.{every_zero, every-next, every_stops}
use Rattle.numbers.proofs.Sum.{sum_zero}
use Rattle.protocol.specs.Prover.{opened}
use Rattle.protocol.specs.Judge.{reply_size}
use Rattle.key.specs.Numbers.{key_with}
use Rattle.transcript.specs.Replies.{parts_with, place_opened, place-first, at-opened, numbers_are, good-opened}
use Rattle.transcript.proofs.Laws.{turn, next_place, next_reply, tested}
use Rattle.transcript.proofs.good_numbers.Goals as goal

pub loop-x-init : goal.loop-x-init
loop-x-init c = (search rules, search rules, sym (place-first _), (omega (arith, sum_zero (reply_size (key_with c.args.k []) (parts_with c.args.e.now c.args.hidden.now c.args.replies.now)))), every_zero _)

pub overflow_sub-from : goal.overflow_sub-from
overflow_sub-from c =
    let t = turn c.args.k c.args.e.now c.args.hidden.now c.args.replies.now c.loop-x.x _ _ c.is_opened.ensures c.if-is_opened.false c.loop-x.invariant.2 c.hidden_at-h.ensures c.given_count-count.ensures.1 c.reply_size.ensures.1 c.loop-x.invariant.3 c.loop-x-test.true c.requires in
    omega (arith, t.room)

pub slice_bounds-numbers_below-end : goal.slice_bounds-numbers_below-end
slice_bounds-numbers_below-end c =
    let t = turn c.args.k c.args.e.now c.args.hidden.now c.args.replies.now c.loop-x.x _ _ c.is_opened.ensures c.if-is_opened.false c.loop-x.invariant.2 c.hidden_at-h.ensures c.given_count-count.ensures.1 c.reply_size.ensures.1 c.loop-x.invariant.3 c.loop-x-test.true c.requires in
    t.inside

pub returns-then-not-numbers_below : goal.returns-then-not-numbers_below
returns-then-not-numbers_below c =
    let t = turn c.args.k c.args.e.now c.args.hidden.now c.args.replies.now c.loop-x.x _ _ c.is_opened.ensures c.if-is_opened.false c.loop-x.invariant.2 c.hidden_at-h.ensures c.given_count-count.ensures.1 c.reply_size.ensures.1 c.loop-x.invariant.3 c.loop-x-test.true c.requires in
    let reply = tested _ _ _ _ t refl c.numbers_below.ensures in
    sym (numbers_are (key_with c.args.k []) (parts_with c.args.e.now c.args.hidden.now c.args.replies.now) ∙ every_stops _ _ c.loop-x.x (omega arith) (sym reply ∙ c.if-not-numbers_below.true))

pub loop-x-preserved : goal.loop-x-preserved
loop-x-preserved c =
    let t = turn c.args.k c.args.e.now c.args.hidden.now c.args.replies.now c.loop-x.x _ _ c.is_opened.ensures c.if-is_opened.false c.loop-x.invariant.2 c.hidden_at-h.ensures c.given_count-count.ensures.1 c.reply_size.ensures.1 c.loop-x.invariant.3 c.loop-x-test.true c.requires in (
      (omega (arith, c.reply_size.ensures.0)),
      (omega arith),
      ap (λ (j : ℕ). j + 1) c.loop-x.invariant.2 ∙ next_place _ _ _ _ t,
      next_reply _ _ _ _ t,
      every-next _ _ c.loop-x.invariant.4 ∙ sym (tested _ _ _ _ t refl c.numbers_below.ensures) ∙ c.if-not-numbers_below.false,
    )

pub loop-x-preserved-then-is_opened : goal.loop-x-preserved-then-is_opened
loop-x-preserved-then-is_opened c =
    let is_open : opened c.args.e.now c.loop-x.x ≡ true = sym c.is_opened.ensures ∙ c.if-is_opened.true in (
      (omega arith),
      (omega arith),
      c.loop-x.invariant.2 ∙ sym (place_opened _ _ is_open),
      at-opened (key_with c.args.k []) (parts_with c.args.e.now c.args.hidden.now c.args.replies.now) _ _ c.loop-x.invariant.3 is_open,
      every-next _ _ c.loop-x.invariant.4 ∙ good-opened _ _ _ is_open,
    )

pub returns : goal.returns
returns c = let e : c.loop-x.x ≡ c.args.k.executions = omega arith in sym (numbers_are (key_with c.args.k []) (parts_with c.args.e.now c.args.hidden.now c.args.replies.now) ∙ rw e at c.loop-x.invariant.4)
