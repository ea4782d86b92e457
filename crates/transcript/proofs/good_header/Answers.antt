-- `good_header` makes the four tests; the last sum is of 64 bits. Assumes nothing.
use Rattle.std.proofs.Common.{◌≡◌, sym, ap, ap₂, ◌∙◌, ℕ, ◌+◌, List, get_or, length, arith}
use lib.Dec.{eqb}
use borrow.Author.Tests.{eq-eqb, ne_eqb}
use Rattle.lists.specs.TestLaws.{every_zero, every-next, every_stops}
use Rattle.transcript.specs.Layout.{start_first}
use Rattle.transcript.proofs.Laws.{start-more, header_short, header_sizes, header_starts, header_rest}
use Rattle.transcript.proofs.good_header.Goals.{then-le32-at-via-then-le32-at, then-le32-at-via-else-le32-at+then-le32-size}
use Rattle.transcript.proofs.good_header.Goals as goal

pub returns-then-x-lt56 : goal.returns-then-x-lt56
returns-then-x-lt56 c = λ K of. header_short K _ c.if-x-lt56.true

pub loop-i-init : goal.loop-i-init
loop-i-init c = (omega arith, λ K of. every_zero _, λ K of. every_zero _, λ K of. sym (start_first K))

pub returns-then-le32-at : goal.returns-then-le32-at
returns-then-le32-at c =
    elim c.then-le32-at.branch [
      | then-le32-at-via-then-le32-at w ↦
          λ K of. header_starts K _ (every_stops _ _ c.loop-i.i (omega arith) (ne_eqb _ _ (λ e. w.if-le32-at.true (c.le32.ensures ∙ e ∙ sym (c.loop-i.invariant.3 K of)))))
      | then-le32-at-via-else-le32-at+then-le32-size w ↦
          λ K of. header_sizes K _ (every_stops _ _ c.loop-i.i (omega arith) (ne_eqb _ _ (λ e. w.if-le32-size.true (w.le32-else-le32-at.ensures ∙ e ∙ sym (ap (λ (l : List ℕ). get_or l c.loop-i.i 0) (c.sizes-lengths.ensures.value K of))))))
    ]

pub loop-i-preserved : goal.loop-i-preserved
loop-i-preserved c =
    let entry = λ (l : List ℕ). get_or l c.loop-i.i 0 in (
      omega (arith, c.sizes-lengths.ensures.bound c.loop-i.i, c.loop-i.invariant.0),
      λ K of. every-next _ _ (c.loop-i.invariant.1 K of) ∙ eq-eqb _ _ (sym c.le32.ensures ∙ c.if-le32-at.false ∙ c.loop-i.invariant.3 K of),
      λ K of. every-next _ _ (c.loop-i.invariant.2 K of) ∙ eq-eqb _ _ (sym c.le32-else-le32-at.ensures ∙ c.if-le32-size.false ∙ ap entry (c.sizes-lengths.ensures.value K of)),
      λ K of. start-more K _ _ _ (c.loop-i.invariant.3 K of) (ap entry (c.sizes-lengths.ensures.value K of)),
    )

pub returns-then-le32-at-2 : goal.returns-then-le32-at-2
returns-then-le32-at-2 c =
    let e : c.loop-i.i ≡ 6 = omega arith in
    λ K of.
    ap₂ (λ (a b : ℕ). eqb (a + b) (length c.args.x.now)) (c.from.ensures ∙ c.le32-2.ensures) (c.from-2.ensures ∙ c.le32-3.ensures)
    ∙ header_rest K _ c.if-x-lt56.false (rw e at (c.loop-i.invariant.2 K of))
    (every-next 6 _ (rw e at (c.loop-i.invariant.1 K of)) ∙ eq-eqb _ _ (sym c.le32-4.ensures ∙ c.if-le32-at-2.true ∙ rw e at (c.loop-i.invariant.3 K of)))

pub returns-else-le32-at-2 : goal.returns-else-le32-at-2
returns-else-le32-at-2 c =
    let e : c.loop-i.i ≡ 6 = omega arith in
    λ K of.
    ne_eqb _ _ c.if-le32-at-2.false
    ∙ header_starts K _
    (every-next 6 _ (rw e at (c.loop-i.invariant.1 K of))
    ∙ ne_eqb _ _ (λ s. c.if-le32-at-2.false (c.le32-4.ensures ∙ s ∙ sym (rw e at (c.loop-i.invariant.3 K of)))))
