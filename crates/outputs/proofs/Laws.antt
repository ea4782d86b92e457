-- Sums of products in two halves, and a party's output from its columns.
-- Assumes nothing.
use Prim.Native.Nat.{ℕ, ◌+◌, ◌*◌, ◌-◌, ◌/◌, ◌%◌, ◌<◌, ◌≤◌}
use mathlib.Core.Path.{◌≡◌, sym, ◌∙◌, ap}
use mathlib.Core.List.{List, ◌++◌}
use native.Mathlib.Nat.{mod-mod, zero-add}
use native.Mathlib.Omega.{arith}
use borrow.Author.Tests.{eq-eqb, ne_eqb}
use lib.ListN.{length, get_or, take, drop, get_or-append}
use lib.Seq.{get_or-take, get_or-drop}
use Rattle.lists.specs.Tab.{tab, tab-length, tab-at, tab_ext, Filling}
use Rattle.numbers.specs.Mod.{Cong, sub}
use Rattle.numbers.proofs.Mod.{cong_trans, cong_eq, cong_mod, sub_below}
use Rattle.numbers.specs.Sum.{sum}
use Rattle.numbers.proofs.Sum.{sum_zero, sum_more, sum_ext}
use Rattle.numbers.specs.Inverse.{inverse_of}
use Rattle.numbers.specs.Output.{weight_of, base_of, term_of}
use Rattle.numbers.specs.Residue.{Residue}
use Rattle.streams.specs.Streams.{number}
use Rattle.execution.specs.Shown.{place_of}
use Rattle.outputs.specs.Steps.{at, cell, target, first_block, column_at, party_of, shown_of}
use Rattle.outputs.specs.Stated.{Drawn, output_at, output_ext, shown_is}

-- ---- a sum x of k numbers below 2^64, kept as the sums lo of their low and hi of their high halves
pub record Halves (x k lo hi : ℕ) : Type 0 where
  pub is : lo + 4294967296 * hi ≡ x
  pub lo_le : lo ≤ k * 4294967295
  pub hi_le : hi ≤ k * 4294967295

-- the same under a function, where omega does not look for hypotheses: these numbers are too large for it
pub record Split (x k lo hi : ℕ) : Type 0 where
  pub halves : Unit {0} → Halves x k lo hi

pub split_first : (f : ℕ → ℕ) → Split (sum 0 f) 0 0 0
split_first f = record { halves = λ u. record { is = sym (sum_zero f); lo_le = omega arith; hi_le = omega arith } }

pub split_next : (f : ℕ → ℕ) {i x lo hi lo' hi' : ℕ} → Split (sum i f) i lo hi → x < 18446744073709551616 → x ≡ f i
    → lo' ≡ lo + x % 4294967296 → hi' ≡ hi + x / 4294967296 → Split (sum (i + 1) f) (i + 1) lo' hi'
split_next f {i} {x} {lo} {hi} S h e el eh =
    record {
      halves =
          λ u.
          record {
            is = rw sum_more (let z : lo + 4294967296 * hi ≡ sum i f = (S.halves tt).is in omega arith);
            lo_le = let z : lo ≤ i * 4294967295 = (S.halves tt).lo_le in omega arith;
            hi_le = let z : hi ≤ i * 4294967295 = (S.halves tt).hi_le in omega arith;
          };
    }

-- the residue of the whole sum
pub split_done : (start : ℕ) {x k lo hi q r : ℕ} → Split x k lo hi → Residue q ((start + (lo + 4294967296 * hi)) % q) r → Residue q ((start + x) % q) r
split_done start {q = q} S h = record { is = h.is ∙ ap (λ y. (start + y) % q) (S.halves tt).is; below = h.below }

-- a column's sum, taken from 0
pub weight_done : (n k : ℕ) (β : ℕ → ℕ) (A : ℕ → ℕ → ℕ) {q lo hi sums r : ℕ} → Split (sum n (λ l. β l * A l k)) n lo hi
    → Residue q ((0 + (lo + 4294967296 * hi)) % q) sums → Residue q (sub q 0 sums) r → Residue q (weight_of q n β A k) r
unfolding weight_of sub
weight_done n k β A {q} {sums = sums} S e h =
    record { is = h.is ∙ ap (λ x. (0 + (q - x % q)) % q) z ∙ ap (λ x. (0 + (q - x)) % q) (mod-mod _ q); below = h.below }
  where
    z : sums ≡ sum n (λ l. β l * A l k) % q
    z = (split_done 0 S e).is ∙ ap (λ x. x % q) (zero-add _)

-- what γ multiplies, reduced
pub term_done : (w γ a b d : ℕ) {q s y : ℕ} → s < q → Residue q ((a * (s + b) + d + (q - s)) % q) y → w * s + γ * y ≡ term_of q w γ a s b d
unfolding term_of
term_done w γ a b d {q} {s} h e = ap (λ z. w * s + γ * z) (e.is ∙ sym (sub_below h (a * (s + b) + d)))

-- t, a residue of x v, where v is y
pub times : (x : ℕ) {q y v t : ℕ} → Residue q y v → Residue q ((x * v) % q) t → Cong q t (x * y)
times x {q} h k = cong_trans (cong_eq (k.is ∙ ap (λ z. (x * z) % q) h.is)) (cong_mod q _)

-- ---- a party's output
-- a column's term, its numbers read at places written another way
pub column_is : (q m i k : ℕ) (ws gs al work : List ℕ) {r x z : ℕ}
    → r ≡ term_of q (at ws k) (at gs k) (at al k) (at work x) (at work (place_of m i k)) (at work z)
    → x ≡ place_of m i (2 * m + k) → z ≡ place_of m i (m + k) → r ≡ column_at q m ws gs al work i k
column_is q m i k ws gs al work e hx hz =
    e ∙ (λ j. term_of q (at ws k) (at gs k) (at al k) (at work (hx j)) (at work (place_of m i k)) (at work (hz j)))

-- the hidden party's output, and an open one's
pub shown_given : (q m hid given base : ℕ) (ws gs al work : List ℕ) (i : ℕ) → i ≡ hid → given ≡ shown_of q m hid given base ws gs al work i
unfolding shown_of
shown_given q m hid given base ws gs al work i e = rw (eq-eqb i hid e)

pub shown_open : (q m hid given base : ℕ) (ws gs al work : List ℕ) (i : ℕ) {r : ℕ} → (i ≡ hid → ⊥) → r ≡ party_of q m base ws gs al work i
    → r ≡ shown_of q m hid given base ws gs al work i
unfolding shown_of
shown_open q m hid given base ws gs al work i n e = rw (ne_eqb i hid n) e

-- ---- an execution with its coefficients cs, weights ws and base
-- the first n coefficients count
base_front : (q N n : ℕ) (cs : List ℕ) (t : ℕ → ℕ) → base_of q N n (at (take n cs)) t ≡ base_of q N n (at cs) t
unfolding base_of
base_front q N n cs t = ap (λ x. x % q) (sum_ext n (λ l h. ap (λ x. x * (t l * inverse_of q N)) (get_or-take n cs l 0 h)))

weight_front : (q n : ℕ) (cs : List ℕ) (A : ℕ → ℕ → ℕ) (k : ℕ) → weight_of q n (at (take n cs)) A k ≡ weight_of q n (at cs) A k
unfolding weight_of
weight_front q n cs A k = ap (λ x. sub q 0 x) (sum_ext n (λ l h. ap (λ x. x * A l k) (get_or-take n cs l 0 h)))

-- the others stand from place n on
gamma_at : (n m : ℕ) (cs : List ℕ) → length cs ≡ n + m → (k : ℕ) → k < m → get_or (take (length cs - n) (drop n cs)) k 0 ≡ get_or cs (n + k) 0
gamma_at n m cs long k h = get_or-take (length cs - n) (drop n cs) k 0 (omega arith) ∙ get_or-drop n cs k 0

pub answers : (n N hid given : ℕ) (entries work : List ℕ) {q m e base : ℕ} {L cs ws : List ℕ} (al xs ys : List ℕ) → 0 < q → length cs ≡ n + m → m ≤ length al
    → Drawn q n m e L cs → Residue q (base_of q N n (at (take n cs)) (target n m entries)) base
    → Filling m ws m (weight_of q n (at (take n cs)) (cell m entries))
    → ys ≡ tab N (shown_of q m hid given base ws (take (length cs - n) (drop n cs)) (take m al) work)
    → ys ++ drop N xs ≡ tab N (output_at q n m N hid e given L entries al work) ++ drop N xs
answers n N hid given entries work {q} {m} {e} {L = L} {cs} al xs ys p long few D hb hw is =
    ap (λ l. l ++ drop N xs)
    (is
    ∙ tab_ext N _ _
    (λ i h.
    shown_is hid given (take m al) work p D (take (length cs - n) (drop n cs)) (gamma_at n m cs long)
    (record { start = hb.is ∙ base_front q N n cs (target n m entries); weight = λ k y. hw.filled k y ∙ weight_front q n cs (cell m entries) k }) i
    ∙ output_ext q n m N hid e given L entries (take m al) al work (λ k y. get_or-take m al k 0 y) i))

-- ---- coefficients that were drawn to the front of a list
pub drawn_at : {cs : List ℕ} (q n m e : ℕ) (L zs : List ℕ) → cs ≡ tab (n + m) (number q L (first_block n m e)) ++ zs → Drawn q n m e L cs
drawn_at q n m e L zs h =
    record {
      at = λ j k. ap (λ l. get_or l j 0) h ∙ get_or-append (tab (n + m) (number q L (first_block n m e))) zs 0 j (rw tab-length k) ∙ tab-at (n + m) _ j k;
    }
