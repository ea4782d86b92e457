-- The walks that take the opened or the kept executions, by the place that the iterator has come to.
-- Assumes nothing.
use Rattle.std.proofs.Common.{ℕ, ◌+◌, ◌-◌, ◌<◌, ◌≤◌, ◌≡◌, refl, sym, ◌∙◌, ap, subst, arith, Bool, true, false, List, [], ◌∷◌, Bor, Some, None, zero, suc, append-nil, inl, inr, not}
use Rattle.std.specs.declared.ops.Range.{Range}
use Rattle.std.specs.declared.iter.Filter.{Filter}
use Rattle.std.specs.Iterator.{Yields}
use Rattle.std.specs.Iterator.Adapters.{filter_steps}
use Rattle.std.specs.List.{FoldsTo}
use Rattle.std.specs.Fn.{CalledAt}
use Rattle.std.proofs.iter.Yields.{nat_range_steps}
use Rattle.std.proofs.Math.Nat.{eq-or-lt_of_le}
use Rattle.lists.specs.Index.{cat, count}
use Rattle.lists.specs.CatLaws.{cat-more}
use Rattle.lists.specs.TestLaws.{count_miss}
use Rattle.lists.specs.Written.{Built}
use Rattle.std.specs.Prelude.{length, drop, ◌++◌}
use denote.Param.Members.{Mut}

module _ {F : Type 0} (g : Mut F (Bor ℕ × Unit {0}) Bool) (test : ℕ → Bool) (f₀ : F) (k : (x : ℕ) (b : Bool) (q : F) → CalledAt g f₀ x b q → (q ≡ f₀) × (b ≡ test x)) where
  -- those that were passed over fail the test
  passed : (xs : List ℕ) (s u : Range ℕ) (f f' : F) → f ≡ f₀ → Yields nat_range_steps s xs u → FoldsTo (λ p x q. CalledAt g p x false q) f xs f'
      → (f' ≡ f₀) × (u.end ≡ s.end) × (s.start ≤ u.start) × ((y : ℕ) → s.start ≤ y → y < u.start → test y ≡ false)
  passed [] s u f f' e y w =
      let st : s.start ≡ u.start = ap (λ (r : Range ℕ). r.start) y in (sym w ∙ e, sym (ap (λ (r : Range ℕ). r.end) y), omega (arith, st), λ z a b. absurd (omega (arith, st)))
  passed (x ∷ xs) s u f f' e y w =
      let c = k x false w.0 (subst (λ p. CalledAt g p x false w.0) e w.1) in
      let r = passed xs y.0 u w.0 f' c.0 y.2 w.2 in
      (r.0, r.1 ∙ y.1.0, omega (arith, r.2, y.1.1.2), λ z a b. first_or_later z a (sym (c.1 ∙ ap test y.1.1.1)) (λ h. r.3 z (omega (arith, h, y.1.1.2)) b))
    where
      first_or_later : (z : ℕ) → s.start ≤ z → test s.start ≡ false → (s.start < z → test z ≡ false) → test z ≡ false
      first_or_later z a h l = elim (eq-or-lt_of_le a) [ inl e ↦ subst (λ i. test i ≡ false) e h | inr e ↦ l e ]

  -- what came passes it, and the iterator stands behind it
  pub record Came (s : Filter (Range ℕ) F) (x : ℕ) (t : Filter (Range ℕ) F) : Type 0 where
    pub callee : t.p ≡ f₀
    pub end : t.iter.end ≡ s.iter.end
    pub next : t.iter.start ≡ x + 1
    pub from : s.iter.start ≤ x
    pub below : x < s.iter.end
    pub holds : test x ≡ true
    pub fails : (y : ℕ) → s.iter.start ≤ y → y < x → test y ≡ false

  pub came : (s t : Filter (Range ℕ) F) (x : ℕ) → s.p ≡ f₀ → filter_steps nat_range_steps g s (Some x) t → Came s x t
  came s t x e h =
      let p = passed h.0 s.iter h.2.0 s.p h.1 e h.2.1 h.3 in
      let c = k x true t.p (subst (λ q. CalledAt g q x true t.p) p.0 h.4) in
      let n = h.2.2.1 in
      record {
        callee = c.0;
        end = h.2.2.0 ∙ p.1;
        next = n.2 ∙ ap (λ i. i + 1) (sym n.1);
        from = omega (arith, p.2, n.1);
        below = omega (arith, n.0, n.1, p.1);
        holds = sym c.1;
        fails = λ y a b. p.3 y a (omega (arith, b, n.1));
      }

  pub ended : (s t : Filter (Range ℕ) F) → s.p ≡ f₀ → filter_steps nat_range_steps g s None t → (y : ℕ) → s.iter.start ≤ y → y < s.iter.end → test y ≡ false
  ended s t e h =
      let p = passed h.0 s.iter h.2.0 s.p h.1 e h.2.1 h.3 in
      let n = h.2.2.1 in
      λ y a b. p.3 y a (omega (arith, b, n.0, p.1))

-- nothing is counted, and nothing added, between two places where the test fails
count_run : (n a : ℕ) (p : ℕ → Bool) → ((y : ℕ) → a ≤ y → y < a + n → p y ≡ false) → count (a + n) p ≡ count a p
count_run zero a p h = ap (λ i. count i p) (omega arith)
count_run (suc n) a p h =
    ap (λ i. count i p) (omega arith) ∙ (count_miss (a + n) p (h (a + n) (omega arith) (omega arith)) ∙ count_run n a p (λ y b c. h y b (omega arith)))

pub count_skip : (a b : ℕ) (p : ℕ → Bool) → a ≤ b → ((y : ℕ) → a ≤ y → y < b → p y ≡ false) → count b p ≡ count a p
count_skip a b p l h =
    let z : a + (b - a) ≡ b = omega arith in
    ap (λ i. count i p) (sym z) ∙ count_run (b - a) a p (λ y c d. h y c (omega (arith, d, z)))

cat_run : (n a : ℕ) (f : ℕ → List ℕ) → ((y : ℕ) → a ≤ y → y < a + n → f y ≡ []) → cat (a + n) f ≡ cat a f
cat_run zero a f h = ap (λ i. cat i f) (omega arith)
cat_run (suc n) a f h =
    let z : a + suc n ≡ a + n + 1 = omega arith in
    rw (z, cat-more (a + n) f, h (a + n) (omega arith) (omega arith), append-nil) (cat_run n a f (λ y b c. h y b (omega arith)))

pub cat_skip : (a b : ℕ) (f : ℕ → List ℕ) → a ≤ b → ((y : ℕ) → a ≤ y → y < b → f y ≡ []) → cat b f ≡ cat a f
cat_skip a b f l h =
    let z : a + (b - a) ≡ b = omega arith in
    ap (λ i. cat i f) (sym z) ∙ cat_run (b - a) a f (λ y c d. h y c (omega (arith, d, z)))

pub built_skip : {f : ℕ → List ℕ} {a at : ℕ} {l o : List ℕ} (b : ℕ) → a ≤ b → ((y : ℕ) → a ≤ y → y < b → f y ≡ []) → Built f a at l o → Built f b at l o
built_skip {f} {a} {at} {l} {o} b k h s =
    let e = cat_skip a b f k h in
    record { long = s.long ∙ ap (λ x. length x) (sym e); is = s.is ∙ ap (λ x. x ++ drop at l) (sym e) }

-- a test that fails where E says so
pub was_true : (b : Bool) → not b ≡ false → b ≡ true
was_true true e = refl
was_true false e = sym e

pub was_false : (b : Bool) → not b ≡ true → b ≡ false
was_false true e = sym e
was_false false e = refl
