-- E: as many executions are opened as it has entries, and the rest are kept.
-- Assumes nothing.
use Prim.Native.Nat.{ℕ, zero, suc, ◌+◌, ◌<◌, ◌≤◌, suc-le-suc}
use mathlib.Core.Path.{◌≡◌, refl, sym, ◌∙◌, ap}
use mathlib.Core.Bool.{Bool, true, false, not}
use mathlib.Core.Logic.{⊎_elim}
use mathlib.Core.List.{List, [], ◌∷◌}
use native.Mathlib.Nat.{not-suc-le-zero, le_of_suc-le-suc, eq-or-lt_of_le, zero-lt-suc}
use native.Mathlib.Omega.{arith}
use borrow.Author.Tests.{eqb-true, ltb-true, leb-true, eq-eqb, ne_eqb}
use lib.Dec.{eqb, ltb, leb}
use lib.ListN.{length, get_or}
use Rattle.lists.specs.Index.{pick, count, member}
use Rattle.lists.specs.TestLaws.{count_zero, count_suc, count-not, count_below, every-at, holds-each, member-at, fails, clash}
use Rattle.protocol.specs.Key.{Key, kept_count}
use Rattle.protocol.specs.Prover.{opened, place, good_e}

-- Entries that rise from above b on, none past n.
abbrev Rising : ℕ → ℕ → List ℕ → Type 0
Rising b n [] = Unit {0}
Rising b n (x ∷ l) = (b < x) × (x ≤ n) × Rising x n l

-- Each member of such a list is past b.
above : (b n : ℕ) (l : List ℕ) → Rising b n l → (j : ℕ) → j < length l → b < get_or l j 0
above b n [] r j h = absurd (not-suc-le-zero h)
above b n (x ∷ l) r zero h = r.0
above b n (x ∷ l) r (suc j) h = omega (arith, r.0, above x n l r.2 j (le_of_suc-le-suc h))

-- No index, and one index, at which a test holds; two tests that never hold at once.
count_none : (n : ℕ) (p : ℕ → Bool) → ((k : ℕ) → k < n → p k ≡ false) → count n p ≡ 0
count_none zero p h = count_zero p
count_none (suc n) p h = count_suc n p ∙ rw (h n (omega arith)) (omega (arith, count_none n p (λ k y. h k (omega arith))))

count-one : (n x : ℕ) → 1 ≤ x → x ≤ n → count n (λ e. eqb (suc e) x) ≡ 1
count-one zero x a h = absurd (omega arith)
count-one (suc n) x a h =
    count_suc n (λ e. eqb (suc e) x)
    ∙ ⊎_elim
    (λ z. rw (eq-eqb (suc n) x (sym z)) (omega (arith, count_none n (λ e. eqb (suc e) x) (λ k y. ne_eqb (suc k) x (λ w. let no : ⊥ = omega arith in no)))))
    (λ below. rw (ne_eqb (suc n) x (λ w. let no : ⊥ = omega arith in no)) (omega (arith, count-one n x a (le_of_suc-le-suc below))))
    (eq-or-lt_of_le h)

count-or : (n : ℕ) (p r : ℕ → Bool) → ((k : ℕ) → k < n → p k ≡ true → r k ≡ false) → count n (λ k. pick (p k) true (r k)) ≡ count n p + count n r
count-or zero p r h = rw (count_zero, count_zero p, count_zero r)
count-or (suc n) p r h =
    rw (count_suc n (λ k. pick (p k) true (r k)), count_suc n p, count_suc n r, count-or n p r (λ k y. h k (omega arith)))
    (go (p n) (r n) (h n (omega arith)))
  where
    go : (a b : Bool) → (a ≡ true → b ≡ false) → count n p + count n r + pick (pick a true b) 1 0 ≡ count n p + pick a 1 0 + (count n r + pick b 1 0)
    go true true c = absurd (clash refl (c refl))
    go true false c = omega arith
    go false true c = omega arith
    go false false c = omega arith

rising-count : (b n : ℕ) (l : List ℕ) → Rising b n l → count n (λ e. member (suc e) l) ≡ length l
rising-count b n [] r = count_none n (λ e. false) (λ k h. refl)
rising-count b n (x ∷ l) r =
    count-or n (λ e. eqb (suc e) x) (λ e. member (suc e) l)
    (λ k h e. fails (member (suc k) l) (λ y. let m = member-at (suc k) l y in let no : ⊥ = omega (arith, above x n l r.2 m.0 m.1, m.2, eqb-true (suc k) x e) in no))
    ∙ omega (arith, count-one n x (omega (arith, r.0)) r.1, rising-count x n l r.2)

-- The tests of a good E say that it rises.
rising : (b n : ℕ) (l : List ℕ) → ((j : ℕ) → j < length l → get_or (b ∷ l) j 0 < get_or l j 0) → ((j : ℕ) → j < length l → get_or l j 0 ≤ n) → Rising b n l
rising b n [] h k = tt
rising b n (x ∷ l) h k =
    (h 0 (zero-lt-suc (length l)), k 0 (zero-lt-suc (length l)), rising x n l (λ j y. h (suc j) (suc-le-suc y)) (λ j y. k (suc j) (suc-le-suc y)))

module _ (K : Key) (E : List ℕ) (g : good_e K E ≡ true) where
  pub e_length : length E ≡ K.τ
  unfolding good_e
  e_length = eqb-true (length E) K.τ (holds-each _ g).0

  e_rises : Rising 0 K.M E
  unfolding good_e
  e_rises =
      rising 0 K.M E
      (λ j h. ltb-true _ _ (every-at (length E) (λ i. ltb (get_or (0 ∷ E) i 0) (get_or E i 0)) (holds-each _ g).1.0 j h))
      (λ j h. leb-true _ _ (every-at (length E) (λ i. leb (get_or E i 0) K.M) (holds-each _ g).1.1.0 j h))

  -- τ executions are opened, M - τ kept.
  pub opened-count : count K.M (opened E) ≡ K.τ
  unfolding opened
  opened-count = rising-count 0 K.M E e_rises ∙ e_length

  pub kept-count : count K.M (λ e. not (opened E e)) ≡ kept_count K
  kept-count = omega (arith, opened-count, count-not K.M (opened E))

  -- A kept execution has its place among M - τ.
  pub place-lt : (e : ℕ) → e < K.M → opened E e ≡ false → place E e < kept_count K
  unfolding place
  place-lt e h o = omega (arith, kept-count, count_below K.M (λ j. not (opened E j)) e h (ap not o))
