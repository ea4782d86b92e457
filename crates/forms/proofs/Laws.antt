-- Steps of the proofs of this crate. Assumes nothing.
use Rattle.std.specs.List.{list_any, IsAllAdjacentAnswer}
use Prim.Native.Nat.{ℕ, zero, suc, ◌+◌, ◌*◌, ◌-◌, ◌%◌, ◌≤◌, ◌<◌}
use mathlib.Core.Path.{◌≡◌, refl, sym, ap, ◌∙◌}
use mathlib.Core.Bool.{Bool, true, false, ◌||◌}
use mathlib.Core.List.{List, [], ◌∷◌, ◌++◌}
use native.Mathlib.Omega.{arith}
use mathlib.Core.Logic.{⊎_elim}
use Rattle.std.proofs.Common.{ltb-true, ltb-false, leb-true, add-one, mul-le-mul, take-append-drop, length-append, length-take-le, length-drop, drop-drop, drop_at}
use lib.Dec.{ltb, leb, eqb}
use lib.ListN.{length, get_or, take, drop}
use borrow.Author.Tests.{lt-ltb, le-leb, eq-eqb, ne_eqb, eqb-true, eqb-false}
use Rattle.lists.specs.Index.{pick, every, member, holds}
use Rattle.lists.specs.Bytes.{num, rd4}
use Rattle.lists.specs.TestLaws.{decide, clash, fails, every_zero, every_stops, every_all, every-at, holds-fails}
use Rattle.lists.specs.CatLaws.{num-left}
use Rattle.numbers.proofs.Mod.{cong_refl}
use Rattle.numbers.specs.Sum.{sum}
use Rattle.numbers.proofs.Sum.{loop_next, sum_same}
use Rattle.protocol.specs.Key.{Key, A, t, kept_count, key_of}
use Rattle.protocol.specs.Prover.{opened, good_e, good_hidden, solves, binary}
use Rattle.key.specs.declared.sizes.Numbers.{Numbers}
use Rattle.key.specs.Numbers.{Read}
use Rattle.key.specs.KeyLaws.{row_fits}

-- What the chain of `is_opened` gives.
pub opened_any : (E : List ℕ) (x : ℕ) → list_any (λ v. eqb v (x + 1)) E ≡ opened E x
unfolding opened
opened_any [] x = refl
opened_any (y ∷ E) x = go (eqb y (x + 1)) refl (opened_any E x)
  where
    go : (t : Bool) → eqb y (x + 1) ≡ t → list_any (λ v. eqb v (x + 1)) E ≡ member (suc x) E
        → (t || list_any (λ v. eqb v (x + 1)) E) ≡ pick (eqb (suc x) y) true (member (suc x) E)
    go true e r = sym (rw (eq-eqb (suc x) y (omega (arith, eqb-true y (x + 1) e))))
    go false e r = r ∙ sym (rw (ne_eqb (suc x) y (λ h. eqb-false y (x + 1) e (omega (arith, h)))))

-- One product more of a row.
pub row_next :
    (row secret : List ℕ) (q j acc : ℕ) {a r : ℕ} → acc ≡ sum j (λ i. num row i * get_or secret i 0) % q → a ≡ num row j
    → r ≡ (acc + a * get_or secret j 0) % q → r ≡ sum (j + 1) (λ i. num row i * get_or secret i 0) % q
row_next row secret q j acc e k h =
    h ∙ ap (λ (y : ℕ). (acc + y * get_or secret j 0) % q) k ∙ loop_next q j acc (num row j * get_or secret j 0) (λ i. num row i * get_or secret i 0) e cong_refl

last_of : (b : Bool) → pick b true false ≡ b
last_of true = refl
last_of false = refl

-- The three tests of E, and of a hidden list: one that fails, or the last where the others hold.
module _ (K : Key) (x : List ℕ) where
  pub opened_length : (length x ≡ K.τ → ⊥) → false ≡ good_e K x
  unfolding good_e
  opened_length h = sym (holds-fails _ 0 (ne_eqb (length x) K.τ h))

  pub opened_rises : every (length x) (λ j. ltb (get_or (0 ∷ x) j 0) (get_or x j 0)) ≡ false → false ≡ good_e K x
  unfolding good_e
  opened_rises h = sym (holds-fails _ 1 h)

  pub opened_last : {M : ℕ} {r : Bool} → K.M ≡ M
      → length x ≡ K.τ → every (length x) (λ j. ltb (get_or (0 ∷ x) j 0) (get_or x j 0)) ≡ true
      → r ≡ every (length x) (λ j. leb (get_or x j 0) M) → r ≡ good_e K x
  unfolding good_e holds
  opened_last eM h rises most = most ∙ sym (rw (eq-eqb (length x) K.τ h, rises, eM) (last_of _))

  pub hidden_length : (length x ≡ kept_count K → ⊥) → false ≡ good_hidden K x
  unfolding good_hidden
  hidden_length h = sym (holds-fails _ 0 (ne_eqb (length x) (kept_count K) h))

  pub hidden_least : every (length x) (λ j. leb 1 (get_or x j 0)) ≡ false → false ≡ good_hidden K x
  unfolding good_hidden
  hidden_least h = sym (holds-fails _ 1 h)

  pub hidden_last : {N : ℕ} {r : Bool} → K.N ≡ N
      → length x ≡ kept_count K → every (length x) (λ j. leb 1 (get_or x j 0)) ≡ true
      → r ≡ every (length x) (λ j. leb (get_or x j 0) N) → r ≡ good_hidden K x
  unfolding good_hidden holds
  hidden_last eN h least most = most ∙ sym (rw (eq-eqb (length x) (kept_count K) h, least, eN) (last_of _))

pub binary_of : (K : Key) (x : List ℕ) {r : Bool} → K.m ≡ length x → r ≡ every (length x) (λ j. leb (get_or x j 0) 1) → r ≡ binary K (λ j. get_or x j 0)
unfolding binary
binary_of K x e h = rw e h

-- A·s = t row by row, as the key's bytes x give A and t.
abbrev pub solves_row : List ℕ → List ℕ → ℕ → Bool
solves_row x s l = eqb (sum (key_of x).m (λ j. A (key_of x) l j * get_or s j 0) % (key_of x).q) (t (key_of x) l)

num_drop : (y : List ℕ) (i j : ℕ) → num (drop (4 * i) y) j ≡ num y (i + j)
unfolding num
num_drop y i j = ap (λ (l : List ℕ). rd4 (take 4 l)) (drop-drop (4 * j) (4 * i) y ∙ ap (λ (k : ℕ). drop k y) (omega arith))

num_take : (y : List ℕ) (n j : ℕ) → n ≤ length y → 4 * j + 4 ≤ n → num (take n y) j ≡ num y j
num_take y n j h l = sym (num-left (take n y) (drop n y) j (omega (arith, length-take-le n y h))) ∙ ap (λ (z : List ℕ). num z j) (take-append-drop n y)

-- What `is_solution` walks: what follows the six numbers, A and t in it, and A from row l on.
abbrev tail : List ℕ → List ℕ
tail x = take (length x - 24) (drop 24 x)

abbrev pub rows : List ℕ → Numbers → List ℕ
rows x k = take (4 * k.n * k.m) (tail x)

abbrev pub targets : List ℕ → Numbers → List ℕ
targets x k = drop (4 * k.n * k.m) (tail x)

abbrev pub after : List ℕ → Numbers → ℕ → List ℕ
after x k l = drop (4 * (l * k.m)) (rows x k)

module _ (x s : List ℕ) (k : Numbers) (read : Read x k) (long : length s ≡ k.m) where
  tail_long : length (tail x) ≡ 4 * (k.n * k.m) + 4 * k.n
  tail_long = length-take-le (length x - 24) (drop 24 x) (omega (arith, length-drop 24 x)) ∙ omega (arith, read.long)

  tail_num : (j : ℕ) → 4 * j + 4 ≤ length x - 24 → num (tail x) j ≡ num x (6 + j)
  tail_num j h = num_take (drop 24 x) (length x - 24) j (omega (arith, length-drop 24 x)) h ∙ num_drop x 6 j

  rows_long : length (rows x k) ≡ 4 * (k.n * k.m)
  rows_long = length-take-le (4 * k.n * k.m) (tail x) (omega (arith, tail_long)) ∙ omega arith

  pub targets_long : length (targets x k) ≡ 4 * k.n
  targets_long = length-drop (4 * k.n * k.m) (tail x) ∙ omega (arith, tail_long)

  after_long : (l : ℕ) → length (after x k l) ≡ 4 * (k.n * k.m) - 4 * (l * k.m)
  after_long l = length-drop (4 * (l * k.m)) (rows x k) ∙ omega (arith, rows_long)

  -- A row that is left, or none.
  pub in_rows : (l : ℕ) (row rest : List ℕ) → after x k l ≡ row ++ rest → length row ≡ 4 * k.m → l < k.n
  in_rows l row rest e w =
      let two : 2 ≤ k.m = read.within.m_least in
      let size : length (after x k l) ≡ length row + length rest = ap (λ (y : List ℕ). length y) e ∙ length-append row rest in
      ⊎_elim (λ h. ltb-true l k.n h)
      (λ h. absurd (omega (arith, size, w, after_long l, two, mul-le-mul {n₁ = k.n} {m₁ = k.m} {n₂ = l} {m₂ = k.m} (ltb-false l k.n h) (omega arith))))
      (decide (ltb l k.n))

  pub past_rows : (l : ℕ) → length (after x k l) < 4 * k.m → k.n ≤ l
  past_rows l h =
      ⊎_elim (λ b. absurd (omega (arith, after_long l, h, row_fits l k.n k.m (ltb-true l k.n b)))) (λ b. ltb-false l k.n b) (decide (ltb l k.n))

  pub next_rows : (l : ℕ) (row rest : List ℕ) → after x k l ≡ row ++ rest → length row ≡ 4 * k.m → rest ≡ after x k (l + 1)
  next_rows l row rest e w =
      sym (drop_at row rest (4 * k.m) w) ∙ ap (λ (y : List ℕ). drop (4 * k.m) y) (sym e) ∙ drop-drop (4 * k.m) (4 * (l * k.m)) (rows x k)
      ∙ ap (λ (i : ℕ). drop i (rows x k)) (omega arith)

  row_num : (l j : ℕ) (row rest : List ℕ) → after x k l ≡ row ++ rest → length row ≡ 4 * k.m → j < k.m → num row j ≡ num x (6 + (l * k.m + j))
  row_num l j row rest e w h =
      let room : l * k.m + k.m ≤ k.n * k.m = row_fits l k.n k.m (in_rows l row rest e w) in
      sym (num-left row rest j (omega (arith, w))) ∙ ap (λ (y : List ℕ). num y j) (sym e) ∙ num_drop (rows x k) (l * k.m) j
      ∙ num_take (tail x) (4 * k.n * k.m) (l * k.m + j) (omega (arith, tail_long)) (omega (arith, room))
      ∙ tail_num (l * k.m + j) (omega (arith, room, read.long))

  row_is : (l r : ℕ) (row rest : List ℕ) → after x k l ≡ row ++ rest → length row ≡ 4 * k.m
      → r ≡ sum (length s) (λ j. num row j * get_or s j 0) % k.modulus.q
      → r ≡ sum (key_of x).m (λ j. A (key_of x) l j * get_or s j 0) % (key_of x).q
  unfolding key_of
  row_is l r row rest e w h =
      rw (read.of.m_is, read.of.q_is) at
      (h ∙ ap (λ (y : ℕ). y % k.modulus.q) (sum_same long (λ j b. ap (λ (y : ℕ). y * get_or s j 0) (row_num l j row rest e w (omega (arith, long))))))

  target_is : (l v : ℕ) → l < k.n → v ≡ num (targets x k) l → v ≡ t (key_of x) l
  unfolding key_of
  target_is l v b h =
      let same : 4 * k.n * k.m ≡ 4 * (k.n * k.m) = omega arith in
      h ∙ ap (λ (i : ℕ). num (drop i (tail x)) l) same ∙ num_drop (tail x) (k.n * k.m) l ∙ tail_num (k.n * k.m + l) (omega (arith, read.long))
      ∙ rw (read.of.n_is, read.of.m_is) refl

  -- The test of row l, by the numbers a and b that are compared.
  pub row_test : (l : ℕ) {a b : ℕ} (row rest : List ℕ) → after x k l ≡ row ++ rest → length row ≡ 4 * k.m
      → a ≡ sum (length s) (λ j. num row j * get_or s j 0) % k.modulus.q → b ≡ num (targets x k) l → solves_row x s l ≡ eqb a b
  row_test l {a} {b} row rest e w h i = rw (← row_is l a row rest e w h, ← target_is l b (in_rows l row rest e w) i) refl

  pub solves_stops : (l : ℕ) → l < k.n → solves_row x s l ≡ false → false ≡ solves (key_of x) (λ j. get_or s j 0)
  unfolding solves
  solves_stops l h e = sym (every_stops (key_of x).n (solves_row x s) l (omega (arith, read.of.n_is)) e)

  pub solves_all : (l : ℕ) → k.n ≤ l → every l (solves_row x s) ≡ true → true ≡ solves (key_of x) (λ j. get_or s j 0)
  unfolding solves
  solves_all l h e = sym (every_all (key_of x).n (solves_row x s) (λ j b. every-at l (solves_row x s) e j (omega (arith, read.of.n_is))))

-- The walk's start.
pub first_rows : (x : List ℕ) (k : Numbers) {y : List ℕ} {l : ℕ} → y ≡ rows x k → l ≡ 0 → y ≡ after x k l
first_rows x k e h = e ∙ let z : 0 ≡ 4 * (0 * k.m) = omega arith in ap (λ (i : ℕ). drop i (rows x k)) z ∙ ap (λ (l : ℕ). after x k l) (sym h)

pub none_yet : {l : ℕ} (p : ℕ → Bool) → l ≡ 0 → every l p ≡ true
none_yet p h = ap (λ (l : ℕ). every l p) h ∙ every_zero p

-- Each entry is 1 or more, and above the one before it.
abbrev risen : List ℕ → ℕ → Bool
risen x j = ltb (get_or (0 ∷ x) j 0) (get_or x j 0)

pub not_rising : (x : List ℕ) {p : Bool} → p ≡ every (length x) (λ j. leb 1 (get_or x j 0)) → p ≡ false → p ≡ every (length x) (risen x)
not_rising x e h =
    h ∙ sym (fails _ (λ all. clash (every_all (length x) (λ j. leb 1 (get_or x j 0)) (λ j b. le-leb 1 (get_or x j 0) (omega (arith, ltb-true _ _ (every-at (length x) (risen x) all j b))))) (sym e ∙ h)))

pub rising_by : (x : List ℕ) (s : Bool) {p : Bool} → p ≡ every (length x) (λ j. leb 1 (get_or x j 0)) → p ≡ true
    → IsAllAdjacentAnswer (λ a b t. t ≡ ltb a b) x s → s ≡ every (length x) (risen x)
rising_by x true e h a = sym (every_all (length x) (risen x) at)
  where
    at : (j : ℕ) → j < length x → risen x j ≡ true
    at zero b = lt-ltb 0 (get_or x 0 0) (omega (arith, leb-true _ _ (every-at (length x) (λ j. leb 1 (get_or x j 0)) (sym e ∙ h) 0 b)))
    at (suc j) b = rw (← add-one j) (sym (a j 0 (omega arith)))
rising_by x false e h a = sym (every_stops (length x) (risen x) (suc a.0) (omega (arith, a.1)) (rw add-one at (sym (a.2 0))))
