-- The findings 2, 3 and 4 from the joined values in a list: b, then d, then s, m numbers each.
-- Assumes nothing.
use Rattle.std.specs.Prelude.{ℕ, zero, suc, ◌+◌, ◌*◌, ◌%◌, ◌<◌, ◌≡◌, refl, Bool, true, false, ltb, get_or, Result}
use Rattle.std.proofs.Math.Path.{sym, ap, ap₂}
use Rattle.std.proofs.Common.{◌∙◌, arith, ltb-true}
use Rattle.std.proofs.Math.Bool.{not}
use mathlib.Core.List.{List, [], ◌∷◌, ◌++◌}
use Rattle.std.proofs.Math.Dec.{leb, eqb}
use Rattle.lists.specs.Tab.{tab, tab_ext}
use Rattle.lists.specs.Index.{pick, least, holds}
use Rattle.lists.specs.TestLaws.{every_ext, least_zero, least_suc}
use Rattle.numbers.specs.Mod.{sub}
use Rattle.numbers.specs.Sum.{sum}
use Rattle.numbers.proofs.Sum.{sum_ext}
use Rattle.numbers.specs.Output.{u_of, v_of}
use Rattle.protocol.specs.Key.{Key, A, t}
use Rattle.protocol.specs.Shares.{sq, b, d, s}
use Rattle.protocol.specs.Prover.{solves, binary}
use Rattle.protocol.specs.Transcript.{Parts}
use Rattle.protocol.specs.Pair.{Reading, secret, square, errors, joined, uv, wrong_square, values, says}
use Rattle.joined.specs.Joined.{Joined}
use Rattle.refusals.specs.declared.Refusal.{Refusal}
use Rattle.reading.specs.declared.Finding.{Finding}
use Rattle.reading.specs.Answers.{means, bits_of, errors_of}

-- s(k)
abbrev pub s_at : ℕ → List ℕ → ℕ → ℕ
s_at m x k = get_or x (2 * m + k) 0

-- row l of A times s
abbrev pub row_of : Key → List ℕ → ℕ → ℕ
row_of K x l = sum K.m (λ j. A K l j * s_at K.m x j)

-- d(k) isn't b(k)²
abbrev pub is_wrong : ℕ → ℕ → List ℕ → ℕ → Bool
is_wrong q m x k = not (eqb (get_or x (m + k) 0) (sq (get_or x k 0) % q))

unfoldable pub wrong_at : ℕ → ℕ → List ℕ → ℕ
wrong_at q m x = least m (is_wrong q m x)

unfoldable pub is_secret : Key → List ℕ → Bool
is_secret K x = holds (solves K (s_at K.m x) ∷ binary K (s_at K.m x) ∷ [])

-- u(l)
abbrev pub u_at : Key → List ℕ → ℕ → ℕ
u_at K x = u_of K.q K.m (A K) (t K) (s_at K.m x)

unfoldable pub uv_at : Key → List ℕ → List ℕ
uv_at K x = tab K.n (u_at K x) ++ tab K.m (v_of K.q (s_at K.m x))

unfoldable pub found : Key → ℕ → List ℕ → Reading
found K e x =
    pick (is_secret K x)
    (secret (tab K.m (s_at K.m x)))
    (pick (ltb (wrong_at K.q K.m x) K.m)
    (square (suc e) (suc (wrong_at K.q K.m x)) (get_or x (wrong_at K.q K.m x) 0) (get_or x (K.m + wrong_at K.q K.m x) 0))
    (errors (suc e) (uv_at K x)))

-- the answer's number and values, and the secret output and the u and v list, before and after
pub record Finds (f : Reading) (r : Result Finding Refusal) (bits bits' errs errs' : List ℕ) : Type 0 where
  pub answer : means r ≡ says f
  pub secret : bits' ≡ bits_of f bits
  pub uv : errs' ≡ errors_of f errs

-- ---- tests and tables look at their functions below m alone
pub least_ext : (n : ℕ) (p r : ℕ → Bool) → ((k : ℕ) → k < n → p k ≡ r k) → least n p ≡ least n r
least_ext zero p r h = least_zero p ∙ sym (least_zero r)
least_ext (suc n) p r h =
    least_suc n p
    ∙ ap₂ (λ (i : ℕ) (c : Bool). pick (ltb i n) i (pick c n (suc n))) (least_ext n p r (λ k l. h k (omega arith))) (h n (omega arith))
    ∙ sym (least_suc n r)

module _ (K : Key) (f g : ℕ → ℕ) (same : (k : ℕ) → k < K.m → f k ≡ g k) where
  row_ext : (l : ℕ) → sum K.m (λ k. A K l k * f k) ≡ sum K.m (λ k. A K l k * g k)
  row_ext l = sum_ext K.m (λ k h. ap (λ y. A K l k * y) (same k h))

  solves_ext : solves K f ≡ solves K g
  unfolding solves
  solves_ext = every_ext K.n _ _ (λ l h. ap (λ y. eqb (y % K.q) (t K l)) (row_ext l))

  binary_ext : binary K f ≡ binary K g
  unfolding binary
  binary_ext = every_ext K.m _ _ (λ k h. ap (λ y. leb y 1) (same k h))

  u_ext : (l : ℕ) → u_of K.q K.m (A K) (t K) f l ≡ u_of K.q K.m (A K) (t K) g l
  unfolding u_of
  u_ext l = ap (sub K.q (t K l)) (row_ext l)

  v_ext : (k : ℕ) → k < K.m → v_of K.q f k ≡ v_of K.q g k
  unfolding v_of
  v_ext k h = ap (λ y. sub K.q (y * y) y) (same k h)

module _ (K : Key) (P R : Parts) (e : ℕ) (x : List ℕ) (J : Joined K P R e x) where
  wrong_is : wrong_square K P R e ≡ wrong_at K.q K.m x
  unfolding wrong_square wrong_at
  wrong_is = least_ext K.m _ _ (λ k h. ap₂ (λ y z. not (eqb y (sq z % K.q))) (sym (J.ds k h)) (sym (J.bs k h)))

  uv_is : uv K P R e ≡ uv_at K x
  unfolding uv uv_at
  uv_is =
      ap₂ (λ (a c : List ℕ). a ++ c)
      (tab_ext K.n _ _ (λ l h. u_ext K (joined K P R e s) (s_at K.m x) (λ k y. sym (J.ss k y)) l))
      (tab_ext K.m _ _ (λ k h. v_ext K (joined K P R e s) (s_at K.m x) (λ k y. sym (J.ss k y)) k h))

-- The values of two transcripts are found from the list of their joined values.
pub values_found : (K : Key) (P R : Parts) (e : ℕ) (x : List ℕ) → Joined K P R e x → values K P R e ≡ found K e x
unfolding values found is_secret
values_found K P R e x J =
    ap₂ (λ (c : Bool) (l : List ℕ). pick c (secret l) (pick (ltb w K.m) (square (suc e) (suc w) (joined K P R e b w) (joined K P R e d w)) (errors (suc e) (uv K P R e))))
    (ap₂ (λ (a c : Bool). holds (a ∷ c ∷ [])) (solves_ext K (joined K P R e s) (s_at K.m x) same) (binary_ext K (joined K P R e s) (s_at K.m x) same))
    (tab_ext K.m (joined K P R e s) (s_at K.m x) same)
    ∙ ap (pick (is_secret K x) (secret (tab K.m (s_at K.m x))))
    (square_is (ltb w K.m) refl
    ∙ ap₂ (λ (i : ℕ) (l : List ℕ). pick (ltb i K.m) (square (suc e) (suc i) (get_or x i 0) (get_or x (K.m + i) 0)) (errors (suc e) l)) (wrong_is K P R e x J) (uv_is K P R e x J))
  where
    w : ℕ
    w = wrong_square K P R e

    same : (k : ℕ) → k < K.m → joined K P R e s k ≡ s_at K.m x k
    same k h = sym (J.ss k h)

    square_is : (c : Bool) → ltb w K.m ≡ c
        → pick c (square (suc e) (suc w) (joined K P R e b w) (joined K P R e d w)) (errors (suc e) (uv K P R e))
        ≡ pick c (square (suc e) (suc w) (get_or x w 0) (get_or x (K.m + w) 0)) (errors (suc e) (uv K P R e))
    square_is true h = ap₂ (square (suc e) (suc w)) (sym (J.bs w (ltb-true w K.m h))) (sym (J.ds w (ltb-true w K.m h)))
    square_is false h = refl
