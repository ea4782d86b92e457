-- A row is what the walk leaves less what it then leaves. Assumes nothing.
use Rattle.std.proofs.Common.{◌∙◌, ap, sym, arith, rules, length, ℕ, List}
use borrow.Author.Tests.{eq-eqb, ne_eqb}
use Rattle.lists.specs.TestLaws.{every-next}
use Rattle.lists.specs.Index.{every}
use Rattle.forms.proofs.Laws.{after, first_rows, none_yet, in_rows, past_rows, next_rows, row_test, targets_long, solves_row, solves_stops, solves_all}
use Rattle.forms.proofs.is_solution.Goals as goal

pub loop-l-init : goal.loop-l-init
loop-l-init c = (search rules, first_rows c.args.key.now c.args.k (search rules) (search rules), none_yet _ (search rules))

pub le32-requires : goal.le32-requires
le32-requires c =
    let x = c.args.key.now in let k = c.args.k in let s = c.args.secret.now in
    let inv = c.loop-l.invariant in let steps = c.in-Some.ensures.steps in
    let below = in_rows x s k c.requires.read c.requires.secret_long c.loop-l.l-iterator.count c.in-Some.row.now _ (sym inv.1 ∙ steps.0.1.0) (steps.0.1.1 ∙ inv.0) in
    omega (arith, below, steps.1, targets_long x s k c.requires.read c.requires.secret_long, ap (λ (l : List ℕ). length l) c.split_at.ensures.back)

pub returns-then-row_sum-le32 : goal.returns-then-row_sum-le32
returns-then-row_sum-le32 c =
    let x = c.args.key.now in let k = c.args.k in let s = c.args.secret.now in
    let inv = c.loop-l.invariant in let steps = c.in-Some.ensures.steps in
    let l = c.loop-l.l-iterator.count in
    let e = sym inv.1 ∙ steps.0.1.0 in let w = steps.0.1.1 ∙ inv.0 in
    let below = in_rows x s k c.requires.read c.requires.secret_long l c.in-Some.row.now _ e w in
    let test = row_test x s k c.requires.read c.requires.secret_long l c.in-Some.row.now _ e w c.row_sum.ensures (rw (steps.1, c.split_at.ensures.back) at c.le32.ensures) in
    solves_stops x s k c.requires.read c.requires.secret_long l below (test ∙ ne_eqb _ _ c.if-row_sum-le32.true)

pub loop-l-preserved : goal.loop-l-preserved
loop-l-preserved c =
    let x = c.args.key.now in let k = c.args.k in let s = c.args.secret.now in
    let inv = c.loop-l.invariant in let steps = c.in-Some.ensures.steps in
    let l = c.loop-l.l-iterator.count in
    let e = sym inv.1 ∙ steps.0.1.0 in let w = steps.0.1.1 ∙ inv.0 in
    let test = row_test x s k c.requires.read c.requires.secret_long l c.in-Some.row.now _ e w c.row_sum.ensures (rw (steps.1, c.split_at.ensures.back) at c.le32.ensures) in (
      steps.0.0 ∙ inv.0,
      next_rows x s k c.requires.read c.requires.secret_long l c.in-Some.row.now _ e w ∙ ap (λ (i : ℕ). after x k i) (sym steps.2),
      ap (λ (i : ℕ). every i (solves_row x s)) steps.2 ∙ every-next _ _ inv.2 ∙ test ∙ eq-eqb _ _ c.if-row_sum-le32.false,
    )

pub returns : goal.returns
returns c =
    let x = c.args.key.now in let k = c.args.k in let s = c.args.secret.now in
    let inv = c.loop-l.invariant in let steps = c.in-None.ensures.steps in
    solves_all x s k c.requires.read c.requires.secret_long c.loop-l.l-iterator.count (past_rows x s k c.requires.read c.requires.secret_long c.loop-l.l-iterator.count (omega (arith, steps.0.1.0, inv.0, ap (λ (y : List ℕ). length y) inv.1))) inv.2
