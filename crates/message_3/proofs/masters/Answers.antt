use Rattle.std.proofs.Common.{ℕ, ◌≡◌, ◌+◌, ◌*◌, ◌≤◌, ◌<◌, refl, sym, ◌∙◌, ap, arith, rules, length, true, false}
use Rattle.lists.specs.Written.{built_item, built_none, built_all}
use Rattle.lists.specs.Index.{count}
use Rattle.lists.specs.CatLaws.{part_length}
use Rattle.lists.specs.TestLaws.{count_zero, count_hit}
use Rattle.protocol.specs.Prover.{opened}
use Rattle.prover.proofs.Laws.{room_16}
use Rattle.prover.proofs.Chosen.{came, ended, count_skip, built_skip}
use Rattle.message_3.proofs.masters.Goals as goal

pub loop-x-init : goal.loop-x-init
loop-x-init c =
    let s : c.into_iter-x-iterator.result.iter.start ≡ 0 = search rules in
    let e : c.into_iter-x-iterator.result.iter.end ≡ c.args.materials.numbers.executions = search rules in
    let p : c.into_iter-x-iterator.result.p.0.now ≡ c.args.materials.given.e.now = search rules in
    (rw s (omega (arith, count_zero (opened c.args.materials.given.e.now))), refl, rw s (built_none _ _), e, p, omega (arith, s))

pub slice_bounds-copy_from_slice-end : goal.slice_bounds-copy_from_slice-end
slice_bounds-copy_from_slice-end c =
    let l = c.loop-x in
    let i = l.invariant in
    let e = c.args.materials.given.e.now in
    let w = came _ (opened l.x-iterator.p.0.now) l.x-iterator.p (λ x b q h. search rules) l.x-iterator c.next.new.self c.in-Some.x refl c.in-Some.ensures.steps in
    let now : count c.in-Some.x (opened e) ≡ count l.x-iterator.iter.start (opened e) = count_skip _ _ (opened e) w.from (rw i.4 at w.fails) in
    let holds : opened e c.in-Some.x ≡ true = rw i.4 at w.holds in
    let room : l.at + 16 ≤ length c.args.out.now = room_16 _ c.in-Some.x _ _ (opened e) (omega (arith, w.below, i.3)) (i.0 ∙ ap (λ n. 16 * n) (sym now)) c.requires holds in
    omega (arith, room, i.1)

pub master-requires : goal.master-requires
master-requires c =
    let l = c.loop-x in
    let w = came _ (opened l.x-iterator.p.0.now) l.x-iterator.p (λ x b q h. search rules) l.x-iterator c.next.new.self c.in-Some.x refl c.in-Some.ensures.steps in
    omega (arith, w.below, l.invariant.3, c.args.materials.seeds_long)

pub loop-x-preserved : goal.loop-x-preserved
loop-x-preserved c =
    let l = c.loop-x in
    let i = l.invariant in
    let e = c.args.materials.given.e.now in
    let seeds = c.args.materials.given.seeds.now in
    let x = c.in-Some.x in
    let w = came _ (opened l.x-iterator.p.0.now) l.x-iterator.p (λ x b q h. search rules) l.x-iterator c.next.new.self c.in-Some.x refl c.in-Some.ensures.steps in
    let fails : (y : ℕ) → l.x-iterator.iter.start ≤ y → y < x → opened e y ≡ false = rw i.4 at w.fails in
    let holds : opened e x ≡ true = rw i.4 at w.holds in
    let now = count_skip _ _ (opened e) w.from fails in
    let piece = c.copy_from_slice.ensures.after ∙ c.master.ensures in
    let long : length c.copy_from_slice.new.self ≡ 16 = ap length piece ∙ part_length seeds (16 * x) 16 (omega (arith, w.below, i.3, c.args.materials.seeds_long)) in (
      rw w.next (omega (arith, i.0, now, count_hit x (opened e) holds)),
      search rules,
      rw w.next (built_item 16 c.copy_from_slice.new.self (built_skip x w.from (λ y a b. rw (fails y a b) refl) i.2) (rw holds piece) long),
      w.end ∙ i.3,
      ap (λ p. p.0.now) w.callee ∙ i.4,
      omega (arith, w.next, w.below, i.3),
    )

pub returns : goal.returns
returns c =
    let l = c.loop-x in
    let i = l.invariant in
    let e = c.args.materials.given.e.now in
    let n = c.args.materials.numbers.executions in
    let none : (y : ℕ) → l.x-iterator.iter.start ≤ y → y < l.x-iterator.iter.end → opened e y ≡ false = rw i.4 at (ended _ (opened l.x-iterator.p.0.now) l.x-iterator.p (λ x b q h. search rules) l.x-iterator c.next.new.self refl c.in-None.ensures.steps) in
    let fails : (y : ℕ) → l.x-iterator.iter.start ≤ y → y < n → opened e y ≡ false = λ y a b. none y a (omega (arith, b, i.3)) in
    built_all (built_skip n i.5 (λ y a b. rw (fails y a b) refl) i.2) refl (omega (arith, c.requires, i.0, count_skip _ _ (opened e) i.5 fails))
