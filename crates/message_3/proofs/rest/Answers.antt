use Rattle.std.proofs.Common.{ℕ, ◌≡◌, ◌+◌, ◌*◌, ◌≤◌, ◌<◌, refl, sym, ap, ◌∙◌, arith, rules, not, true, false}
use lib.ListN.{length-take, length-drop}
use Rattle.lists.specs.Index.{count}
use Rattle.lists.specs.TestLaws.{count_zero, count_hit}
use Rattle.protocol.specs.Prover.{opened}
use Rattle.prover.proofs.Laws.{room_32}
use Rattle.prover.proofs.Chosen.{came, ended, count_skip, was_true, was_false}
use Rattle.message_3.proofs.Laws.{kept-start, kept_skip, kept_some, rest_of}
use Rattle.message_3.proofs.rest.Goals as goal

pub loop-x-init : goal.loop-x-init
loop-x-init c =
    let s : c.into_iter-x-iterator.result.iter.start ≡ 0 = search rules in
    let e : c.into_iter-x-iterator.result.iter.end ≡ c.args.materials.numbers.executions = search rules in
    let p : c.into_iter-x-iterator.result.p.0.now ≡ c.args.materials.given.e.now = search rules in
    (rw s (omega (arith, count_zero (λ j. not (opened c.args.materials.given.e.now j)))), refl, refl, rw s (kept-start _ _), e, p, omega (arith, s))

pub overflow_add-end : goal.overflow_add-end
overflow_add-end c =
    let l = c.loop-x in
    let i = l.invariant in
    let e = c.args.materials.given.e.now in
    let x = c.in-Some.x in
    let w = came _ (λ y. not (opened l.x-iterator.p.0.now y)) l.x-iterator.p (λ x b q h. search rules) l.x-iterator c.next.new.self c.in-Some.x refl c.in-Some.ensures.steps in
    let fails : (y : ℕ) → l.x-iterator.iter.start ≤ y → y < x → not (opened e y) ≡ false = rw i.5 at w.fails in
    let holds : not (opened e x) ≡ true = rw i.5 at w.holds in
    let now = count_skip _ _ (λ j. not (opened e j)) w.from fails in
    let most : l.at + 32 ≤ 32 * count c.args.materials.numbers.executions (λ j. not (opened e j)) = room_32 _ x _ _ (opened e) (omega (arith, w.below, i.4)) (i.0 ∙ ap (λ n. 32 * n) (sym now)) refl (was_false _ holds) in
    omega (arith, most, c.requires.out_long)

pub slice_bounds-copy_from_slice-end : goal.slice_bounds-copy_from_slice-end
slice_bounds-copy_from_slice-end c =
    let l = c.loop-x in
    let i = l.invariant in
    let e = c.args.materials.given.e.now in
    let x = c.in-Some.x in
    let w = came _ (λ y. not (opened l.x-iterator.p.0.now y)) l.x-iterator.p (λ x b q h. search rules) l.x-iterator c.next.new.self c.in-Some.x refl c.in-Some.ensures.steps in
    let fails : (y : ℕ) → l.x-iterator.iter.start ≤ y → y < x → not (opened e y) ≡ false = rw i.5 at w.fails in
    let holds : not (opened e x) ≡ true = rw i.5 at w.holds in
    let now = count_skip _ _ (λ j. not (opened e j)) w.from fails in
    let most : l.at + 32 ≤ 32 * count c.args.materials.numbers.executions (λ j. not (opened e j)) = room_32 _ x _ _ (opened e) (omega (arith, w.below, i.4)) (i.0 ∙ ap (λ n. 32 * n) (sym now)) refl (was_false _ holds) in
    omega (arith, most, c.requires.out_long, i.2)

pub omega_and_pi-requires-clause-x_bound : goal.omega_and_pi-requires-clause-x_bound
omega_and_pi-requires-clause-x_bound c =
    let l = c.loop-x in
    let w = came _ (λ y. not (opened l.x-iterator.p.0.now y)) l.x-iterator.p (λ x b q h. search rules) l.x-iterator c.next.new.self c.in-Some.x refl c.in-Some.ensures.steps in
    omega (arith, w.below, l.invariant.4)

pub loop-x-preserved : goal.loop-x-preserved
loop-x-preserved c =
    let l = c.loop-x in
    let i = l.invariant in
    let e = c.args.materials.given.e.now in
    let x = c.in-Some.x in
    let w = came _ (λ y. not (opened l.x-iterator.p.0.now y)) l.x-iterator.p (λ x b q h. search rules) l.x-iterator c.next.new.self c.in-Some.x refl c.in-Some.ensures.steps in
    let fails : (y : ℕ) → l.x-iterator.iter.start ≤ y → y < x → not (opened e y) ≡ false = rw i.5 at w.fails in
    let holds : not (opened e x) ≡ true = rw i.5 at w.holds in
    let now = count_skip _ _ (λ j. not (opened e j)) w.from fails in
    let o = c.omega_and_pi.ensures in (
      rw w.next (omega (arith, i.0, now, count_hit x (λ j. not (opened e j)) holds)),
      search rules,
      search rules,
      rw w.next (kept_some (was_false _ holds) (omega arith) o.omega o.pi c.copy_from_slice.ensures.after c.update.ensures (kept_skip x w.from (λ y a b. was_true _ (fails y a b)) i.3)),
      w.end ∙ i.4,
      ap (λ p. p.0.now) w.callee ∙ i.5,
      omega (arith, w.next, w.below, i.4),
    )

pub slice_bounds-copy_from_slice-count-2 : goal.slice_bounds-copy_from_slice-count-2
slice_bounds-copy_from_slice-count-2 c =
    let l = c.loop-x in
    let i = l.invariant in
    let e = c.args.materials.given.e.now in
    let n = c.args.materials.numbers.executions in
    let none : (y : ℕ) → l.x-iterator.iter.start ≤ y → y < l.x-iterator.iter.end → not (opened e y) ≡ false = rw i.5 at (ended _ (λ y. not (opened l.x-iterator.p.0.now y)) l.x-iterator.p (λ x b q h. search rules) l.x-iterator c.next.new.self refl c.in-None.ensures.steps) in
    let fails : (y : ℕ) → l.x-iterator.iter.start ≤ y → y < n → not (opened e y) ≡ false = λ y a b. none y a (omega (arith, b, i.4)) in
    let now = count_skip _ _ (λ j. not (opened e j)) i.6 fails in
    omega (arith, i.0, now, c.requires.out_long, i.2)

pub slice_bounds-copy_from_slice-start-2 : goal.slice_bounds-copy_from_slice-start-2
slice_bounds-copy_from_slice-start-2 c = slice_bounds-copy_from_slice-count-2 c

pub copy_from_slice-requires-2 : goal.copy_from_slice-requires-2
copy_from_slice-requires-2 c =
    let l = c.loop-x in
    let i = l.invariant in
    let e = c.args.materials.given.e.now in
    let n = c.args.materials.numbers.executions in
    let none : (y : ℕ) → l.x-iterator.iter.start ≤ y → y < l.x-iterator.iter.end → not (opened e y) ≡ false = rw i.5 at (ended _ (λ y. not (opened l.x-iterator.p.0.now y)) l.x-iterator.p (λ x b q h. search rules) l.x-iterator c.next.new.self refl c.in-None.ensures.steps) in
    let fails : (y : ℕ) → l.x-iterator.iter.start ≤ y → y < n → not (opened e y) ≡ false = λ y a b. none y a (omega (arith, b, i.4)) in
    let now = count_skip _ _ (λ j. not (opened e j)) i.6 fails in
    simp (length-take, length-drop) (omega (arith, i.0, now, c.requires.out_long, i.2))

pub returns : goal.returns
returns c =
    let l = c.loop-x in
    let i = l.invariant in
    let e = c.args.materials.given.e.now in
    let n = c.args.materials.numbers.executions in
    let none : (y : ℕ) → l.x-iterator.iter.start ≤ y → y < l.x-iterator.iter.end → not (opened e y) ≡ false = rw i.5 at (ended _ (λ y. not (opened l.x-iterator.p.0.now y)) l.x-iterator.p (λ x b q h. search rules) l.x-iterator c.next.new.self refl c.in-None.ensures.steps) in
    let fails : (y : ℕ) → l.x-iterator.iter.start ≤ y → y < n → not (opened e y) ≡ false = λ y a b. none y a (omega (arith, b, i.4)) in
    let now = count_skip _ _ (λ j. not (opened e j)) i.6 fails in
    rest_of n _ c.begin-s.ensures (kept_skip n i.6 (λ y a b. was_true _ (fails y a b)) i.3) refl c.finish.ensures c.copy_from_slice-2.ensures.after
