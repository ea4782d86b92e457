-- `walk` meets its contract. Assumes nothing.
use mathlib.Core.Path.{◌≡◌, refl, sym, ◌∙◌, ap, ap₂, subst}
use Prim.Native.Nat.{ℕ, ◌-◌}
use mathlib.Core.List.{List}
use borrow.Author.Rules.{rules}
use Rattle.std.specs.Prelude.{Err}
use Rattle.lists.specs.Check.{Verdict, refused}
use Rattle.refusals.specs.Refused.{number, verdict_of}
use Rattle.walk.specs.Walk.{Walked}
use native.Mathlib.Omega.{arith}
use Rattle.walk.proofs.Going.{going_first, going_next, walk_stops, walk_ends}
use Rattle.walk.proofs.Laws.{good_e_lem}
use Rattle.walk.proofs.hashes.walk.Goals as goal

pub loop-e-init : goal.loop-e-init
loop-e-init c = (λ K P so. going_first K P _ _ _, refl, refl)

pub returns-in_err-here-clause-walked : goal.returns-in_err-here-clause-walked
returns-in_err-here-clause-walked c =
    let is : c.from_residual.result ≡ Err c.in_err-here.field-0.0 = search rules in
    let lists : c.round.new.lists ≡ c.loop-e.lists = c.in_err-here.ensures.refused in
    λ K P so.
    subst (λ (v : Verdict). Walked K P v c.args.lists.now c.round.new.lists) (sym (ap verdict_of is))
    (subst (λ (l : List ℕ). Walked K P (refused (number c.in_err-here.field-0.0)) c.args.lists.now l) (sym lists)
    (walk_stops K P (c.loop-e.invariant.0 K P so) (omega (arith, so.executions, c.loop-e-test.true)) (sym (c.in_err-here.ensures.verdict K P so))))

pub loop-e-preserved : goal.loop-e-preserved
loop-e-preserved c =
    let inv = c.loop-e.invariant in (
      λ K P so.
          going_next K P so.executions (ap₂ (λ x y. x - y) so.executions so.openings) (inv.0 K P so) (c.in_ok-here.ensures.stepped K P so)
          (sym (c.in_ok-here.ensures.verdict K P so)),
      c.round.ensures.lists_len_unchanged ∙ inv.1,
      c.round.ensures.work_len_unchanged ∙ inv.2,
    )

pub returns-clause-walked : goal.returns-clause-walked
returns-clause-walked c =
    let inv = c.loop-e.invariant in
    λ K P so.
    walk_ends K P so.executions (ap₂ (λ x y. x - y) so.executions so.openings) (good_e_lem so) (inv.0 K P so) (omega (arith, c.loop-e-test.false)) (inv.1 ∙ c.requires.lists_long)
