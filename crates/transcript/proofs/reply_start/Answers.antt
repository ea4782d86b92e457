use Prim.Native.Nat.{ℕ, ◌+◌}
use mathlib.Core.Path.{◌≡◌, sym, ap, ◌∙◌}
use mathlib.Core.List.{[]}
use native.Mathlib.Omega.{arith}
use lib.ListN.{get_or}
use Rattle.numbers.proofs.Sum.{sum_zero}
use Rattle.protocol.specs.Judge.{reply_size}
use Rattle.key.specs.Numbers.{key_with, of_with}
use Rattle.transcript.specs.Replies.{parts_with, place_opened, place_kept, place-first, at-opened, at-kept}
use Rattle.transcript.proofs.Laws.{from_of}
use Rattle.transcript.proofs.reply_start.Goals as goal

pub loop-i-init : goal.loop-i-init
loop-i-init c = (omega arith, omega arith, sym (place-first _), (omega (arith, sum_zero (reply_size (key_with c.args.k []) (parts_with c.args.e.now c.args.hidden.now [])))))

pub loop-i-preserved-then-is_opened : goal.loop-i-preserved-then-is_opened
loop-i-preserved-then-is_opened c =
    (omega arith, omega arith, c.loop-i.invariant.2 ∙ sym (place_opened _ _ (sym c.is_opened.ensures ∙ c.if-is_opened.true)), at-opened _ _ _ _ c.loop-i.invariant.3 (sym c.is_opened.ensures ∙ c.if-is_opened.true))

pub loop-i-preserved : goal.loop-i-preserved
loop-i-preserved c = (
  omega (arith, c.reply_size-start.ensures.0),
  omega arith,
  ap (λ i. i + 1) c.loop-i.invariant.2 ∙ sym (place_kept _ _ (sym c.is_opened.ensures ∙ c.if-is_opened.false)),
  at-kept _ _ _ _ _ c.loop-i.invariant.3 (c.reply_size-start.ensures.1 (key_with c.args.k []) (parts_with c.args.e.now c.args.hidden.now []) _ (of_with _ []) (sym c.is_opened.ensures ∙ c.if-is_opened.false) (ap (λ (i : ℕ). get_or c.args.hidden.now i 0) (sym c.loop-i.invariant.2) ∙ sym c.hidden_at.ensures)),
)

pub returns-clause-value : goal.returns-clause-value
returns-clause-value c =
    let e : c.loop-i.i ≡ c.args.x = omega arith in
    from_of _ _ _ _ (rw e at c.loop-i.invariant.3)
