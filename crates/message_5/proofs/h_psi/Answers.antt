use Rattle.std.proofs.Common.{ℕ, ◌≡◌, ◌≤◌, ◌<◌, refl, ◌∙◌, ap, arith, rules, not, true, false}
use Rattle.protocol.specs.Prover.{opened}
use Rattle.prover.proofs.Chosen.{came, ended, was_true, was_false}
use Rattle.message_5.proofs.Laws.{all_none, all_more, all_skip, all_fed, fed_kept}
use Rattle.message_5.proofs.h_psi.Goals as goal

pub loop-x-init : goal.loop-x-init
loop-x-init c =
    let s : c.into_iter-x-iterator.result.iter.start ≡ 0 = search rules in
    let e : c.into_iter-x-iterator.result.iter.end ≡ c.args.materials.numbers.executions = search rules in
    let p : c.into_iter-x-iterator.result.p.0.now ≡ c.args.materials.given.e.now = search rules in
    (refl, rw s (all_none _), e, p, omega (arith, s))

pub loop-x-preserved : goal.loop-x-preserved
loop-x-preserved c =
    let l = c.loop-x in
    let i = l.invariant in
    let e = c.args.materials.given.e.now in
    let x = c.in-Some.x in
    let w = came _ (λ y. not (opened l.x-iterator.p.0.now y)) l.x-iterator.p (λ x b q h. search rules) l.x-iterator c.next.new.self x refl c.in-Some.ensures.steps in
    let fails : (y : ℕ) → l.x-iterator.iter.start ≤ y → y < x → not (opened e y) ≡ false = rw i.3 at w.fails in
    let holds : not (opened e x) ≡ true = rw i.3 at w.holds in (
      search rules,
      rw w.next (all_more x (all_skip x w.from (λ y a b. was_true _ (fails y a b)) i.1) (fed_kept (was_false _ holds) c.psi.ensures.psi c.update.ensures)),
      w.end ∙ i.2,
      ap (λ p. p.0.now) w.callee ∙ i.3,
      omega (arith, w.next, w.below, i.2),
    )

pub returns : goal.returns
returns c =
    let l = c.loop-x in
    let i = l.invariant in
    let e = c.args.materials.given.e.now in
    let n = c.args.materials.numbers.executions in
    let none : (y : ℕ) → l.x-iterator.iter.start ≤ y → y < l.x-iterator.iter.end → not (opened e y) ≡ false = rw i.3 at (ended _ (λ y. not (opened l.x-iterator.p.0.now y)) l.x-iterator.p (λ x b q h. search rules) l.x-iterator c.next.new.self refl c.in-None.ensures.steps) in
    all_fed n c.begin-s.ensures (all_skip n i.4 (λ y a b. was_true _ (none y a (omega (arith, b, i.2)))) i.1) refl c.finish.ensures

pub psi-requires-clause-x_bound : goal.psi-requires-clause-x_bound
psi-requires-clause-x_bound c =
    let l = c.loop-x in
    let w = came _ (λ y. not (opened l.x-iterator.p.0.now y)) l.x-iterator.p (λ x b q h. search rules) l.x-iterator c.next.new.self c.in-Some.x refl c.in-Some.ensures.steps in
    omega (arith, w.below, l.invariant.2)
