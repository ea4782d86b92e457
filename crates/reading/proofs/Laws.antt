-- Steps of the proofs of this crate.
-- Assumes nothing.
use Prim.Native.Nat.{ℕ, zero, suc, ◌+◌, ◌*◌, ◌%◌, ◌<◌, ◌≤◌}
use Rattle.std.proofs.Math.Nat.{mod-lt}
use mathlib.Core.Path.{◌≡◌, refl, sym, ◌∙◌, ap, ap₂, subst}
use mathlib.Core.Bool.{Bool, true, false}
use mathlib.Core.List.{List, [], ◌∷◌, ◌++◌}
use native.Mathlib.Nat.{mul-le-mul}
use native.Mathlib.Numerals.{add-one}
use native.Mathlib.Omega.{arith}
use borrow.Author.Tests.{lt-ltb, le-ltb, leb-true}
use lib.Dec.{eqb, leb, ltb}
use Rattle.std.specs.Prelude.{Ok, Option, Some, None, MatchOption}
use Rattle.std.specs.List.{list_all, range_with_len, fold, zip}
use Rattle.std.proofs.lemmas.List.{take_all}
use Rattle.std.proofs.lemmas.List.Sums.{fold_more}
use Rattle.std.proofs.lemmas.Slice.Zip.{get_or-zip, length-zip}
use lib.ListN.{length, get_or, take, drop, length-append}
use Rattle.lists.specs.Tab.{tab, tab-length}
use Rattle.lists.specs.Index.{least}
use Rattle.lists.specs.TestLaws.{least-found, least-none, every-at, pick_true, pick_false, holds-each, Holds}
use Rattle.lists.proofs.Chains.{every_range}
use Rattle.numbers.specs.Mod.{sub}
use Rattle.numbers.specs.Sum.{sum}
use Rattle.numbers.proofs.Residue.{residue_first, residue_next}
use Rattle.numbers.proofs.Mod.{cong_trans, cong_eq, cong_mod, cong_same, sub-lt, sub_cong}
use Rattle.numbers.specs.Output.{u_of, v_of}
use Rattle.numbers.specs.Residue.{Residue}
use Rattle.protocol.specs.Key.{Key, A, t}
use Rattle.protocol.specs.Prover.{solves, binary}
use Rattle.protocol.specs.Pair.{Reading, secret, square, errors, says}
use Rattle.reading.specs.declared.Finding.TheVariants.{Secret, Square, Errors}
use Rattle.reading.specs.Answers.{bits_of, errors_of}
use Rattle.reading.specs.Found.{row_of, s_at, u_at, is_wrong, wrong_at, is_secret, uv_at, found, Finds}

-- ---- squares

-- the first of the columns whose square is wrong
pub wrong_first : (q m : ℕ) (x : List ℕ) (r : Option ℕ)
    → MatchOption r ((k : ℕ) → 0 ≤ k → k < m → is_wrong q m x k ≡ false)
    (λ i. (0 ≤ i) × (i < m) × (is_wrong q m x i ≡ true) × ((k : ℕ) → 0 ≤ k → k < i → is_wrong q m x k ≡ false))
    → MatchOption r (m ≤ wrong_at q m x) (λ k. (k < m) × (k ≡ wrong_at q m x))
unfolding wrong_at
wrong_first q m x None h =
    let z : least m (is_wrong q m x) ≡ m = least-none m (is_wrong q m x) (λ k l. h k (omega arith) l) in
    omega (arith, z)
wrong_first q m x (Some i) h = (h.1, sym (least-found m (is_wrong q m x) i h.1 h.2 (λ k l. h.3 k (omega arith) l)))

-- ---- differences

-- what is taken away, and from what, may be reduced first
pub sub_reduced : (a b : ℕ) {q x y r : ℕ} → 0 < q → x ≡ a % q → y ≡ b % q → Residue q (sub q x y) r → r ≡ sub q a b
sub_reduced a b {q} {x} {y} h e f so =
    so.is
    ∙ cong_same (sub-lt h x y) (sub-lt h a b) (sub_cong h (cong_trans (cong_eq e) (cong_mod q a)) (cong_trans (cong_eq f) (cong_mod q b)))

pub v_is : (q m : ℕ) (x : List ℕ) (j : ℕ) {a b r : ℕ} → 0 < q → a ≡ (s_at m x j * s_at m x j) % q → b ≡ s_at m x j % q
    → Residue q (sub q a b) r → r ≡ v_of q (s_at m x) j
unfolding v_of
v_is q m x j h e f so = sub_reduced _ _ h e f so

-- ---- rows

-- where row l of n rows of m numbers ends
pub row_end : (l m n : ℕ) → l < n → l * m + m ≤ n * (m + 1)
row_end l m n h = let e : suc l * m ≤ n * m = mul-le-mul {n₁ = suc l} {m₁ = m} {n₂ = n} {m₂ = m} h (omega arith) in omega (arith, e)

-- one turn of a sum of products modulo q
abbrev pub turn : (q : ℕ) → ℕ → ℕ × ℕ → ℕ
turn q acc p = (acc + p.0 * p.1) % q

module _ (q : ℕ) (pos : 0 < q) (m : ℕ) (a s : List ℕ) (f : ℕ → ℕ) (la : length a ≡ m) (ls : length s ≡ m) (at : (j : ℕ) → j < m → get_or a j 0 * get_or s j 0 ≡ f j) where
  long : length (zip a s) ≡ m
  long = length-zip a s ∙ (omega (arith, la, ls))

  front : (i : ℕ) → i ≤ m → Residue q (sum i f % q) (fold (turn q) 0 (take i (zip a s)))
  front zero h = residue_first f pos
  front (suc i) h =
      let acc = fold (turn q) 0 (take i (zip a s)) in
      let e : fold (turn q) 0 (take (i + 1) (zip a s)) ≡ (acc + get_or a i 0 * get_or s i 0) % q =
      fold_more (turn q) 0 (zip a s) i (0, 0) (omega (arith, long)) ∙ ap (turn q acc) (get_or-zip a s i (0, 0) (omega (arith, la)) (omega (arith, ls))) in
      subst (λ (k : ℕ). Residue q (sum k f % q) (fold (turn q) 0 (take k (zip a s)))) (add-one i)
      (residue_next i acc (get_or a i 0 * get_or s i 0) f (front i (omega arith)) (cong_eq (at i (omega arith)))
      (record { is = e; below = subst (λ (z : ℕ). z < q) (sym e) (mod-lt _ pos) }))

  pub row_folded : Residue q (sum m f % q) (fold (turn q) 0 (zip a s))
  row_folded = subst (λ (z : List (ℕ × ℕ)). Residue q (sum m f % q) (fold (turn q) 0 z)) (take_all m (zip a s) (omega (arith, long))) (front m (omega arith))

module _ (K : Key) (x : List ℕ) where
  abbrev pub is_row : ℕ → Bool
  is_row l = eqb (row_of K x l % K.q) (t K l)

  pub row_is : (l : ℕ) (a s : List ℕ) {r : ℕ} → 0 < K.q → length a ≡ K.m → length s ≡ K.m → ((j : ℕ) → j < K.m → get_or a j 0 ≡ A K l j) → ((j : ℕ) → j < K.m → get_or s j 0 ≡ s_at K.m x j)
      → r ≡ fold (turn K.q) 0 (zip a s) → Residue K.q (row_of K x l % K.q) r
  row_is l a s pos la ls aj sj e = rw (e) (row_folded K.q pos K.m a s (λ j. A K l j * s_at K.m x j) la ls (λ j h. ap₂ (λ u v. u * v) (aj j h) (sj j h)))

  pub rows_all : list_all is_row (range_with_len 0 K.n) ≡ solves K (s_at K.m x)
  unfolding solves
  rows_all = every_range is_row K.n

  pub u_is : (l : ℕ) {a row r : ℕ} → 0 < K.q → a ≡ t K l % K.q → row ≡ row_of K x l % K.q → Residue K.q (sub K.q a row) r → r ≡ u_at K x l
  unfolding u_of
  u_is l h e f so = sub_reduced _ _ h e f so

-- ---- the test of a secret

module _ (K : Key) (x : List ℕ) where
  pub secret_bits : is_secret K x ≡ true → (j : ℕ) → j < K.m → s_at K.m x j ≤ 1
  unfolding is_secret binary
  secret_bits e j h =
      let so : Holds (solves K (s_at K.m x) ∷ binary K (s_at K.m x) ∷ []) = holds-each _ e in
      leb-true (s_at K.m x j) 1 (every-at K.m (λ i. leb (s_at K.m x i) 1) so.1.0 j h)

-- ---- the three answers

module _ (K : Key) (e : ℕ) (x : List ℕ) where
  found_secret : is_secret K x ≡ true → found K e x ≡ secret (tab K.m (s_at K.m x))
  unfolding found
  found_secret h = pick_true (is_secret K x) _ _ h

  found_square : (w : ℕ) → is_secret K x ≡ false → w ≡ wrong_at K.q K.m x → w < K.m
      → found K e x ≡ square (e + 1) (w + 1) (get_or x w 0) (get_or x (K.m + w) 0)
  unfolding found
  found_square w h z l =
      pick_false (is_secret K x) _ _ h ∙ rw (← z, add-one e, add-one w) (pick_true (ltb w K.m) _ _ (lt-ltb w K.m l))

  found_errors : (w : ℕ) → is_secret K x ≡ false → w ≡ wrong_at K.q K.m x → K.m ≤ w → found K e x ≡ errors (e + 1) (uv_at K x)
  unfolding found
  found_errors w h z l =
      pick_false (is_secret K x) _ _ h ∙ rw (← z, add-one e) (pick_false (ltb w K.m) _ _ (le-ltb w K.m l))

  pub finds_secret : (bits bits₀ errs : List ℕ) → is_secret K x ≡ true → bits ≡ tab K.m (s_at K.m x)
      → Finds (found K e x) (Ok Secret) bits₀ (bits ++ drop K.m bits₀) errs errs
  finds_secret bits bits₀ errs h is =
      let z : found K e x ≡ secret (tab K.m (s_at K.m x)) = found_secret h in
      record {
        answer = sym (ap says z);
        secret = rw (is) (ap (λ (i : ℕ). tab K.m (s_at K.m x) ++ drop i bits₀) (sym (tab-length K.m (s_at K.m x)))) ∙ sym (ap (λ (v : Reading). bits_of v bits₀) z);
        uv = sym (ap (λ (v : Reading). errors_of v errs) z);
      }

  pub finds_square : (w : ℕ) (bits errs : List ℕ) → is_secret K x ≡ false → w ≡ wrong_at K.q K.m x → w < K.m
      → Finds (found K e x) (Ok (Square (e + 1) (w + 1) (get_or x w 0) (get_or x (K.m + w) 0))) bits bits errs errs
  finds_square w bits errs h is l =
      let z : found K e x ≡ square (e + 1) (w + 1) (get_or x w 0) (get_or x (K.m + w) 0) = found_square w h is l in
      record { answer = sym (ap says z); secret = sym (ap (λ (v : Reading). bits_of v bits) z); uv = sym (ap (λ (v : Reading). errors_of v errs) z) }

  uv_long : length (uv_at K x) ≡ K.n + K.m
  unfolding uv_at
  uv_long = simp (length-append, tab-length) refl

  pub finds_errors : (w : ℕ) (bits errs errs₀ : List ℕ) → is_secret K x ≡ false → w ≡ wrong_at K.q K.m x → K.m ≤ w → errs ≡ uv_at K x
      → Finds (found K e x) (Ok (Errors (e + 1))) bits bits errs₀ (errs ++ drop (K.n + K.m) errs₀)
  finds_errors w bits errs errs₀ h is l so =
      let z : found K e x ≡ errors (e + 1) (uv_at K x) = found_errors w h is l in
      record {
        answer = sym (ap says z);
        secret = sym (ap (λ (v : Reading). bits_of v bits) z);
        uv = rw (so) (ap (λ (i : ℕ). uv_at K x ++ drop i errs₀) (sym uv_long)) ∙ sym (ap (λ (v : Reading). errors_of v errs₀) z);
      }
