-- A reply of part 7 is read back as it was written.
-- Assumes nothing.
use Prim.Native.Nat.{ℕ, suc, ◌+◌, ◌*◌, ◌-◌, ◌<◌, ◌≤◌}
use mathlib.Core.Path.{◌≡◌, refl, sym, ◌∙◌, ap, ap₂}
use mathlib.Core.Bool.{Bool, true, false}
use mathlib.Core.Logic.{⊎_elim}
use mathlib.Core.List.{List, [], ◌++◌, append_assoc, append-nil}
use native.Mathlib.Nat.{eq-or-lt_of_le}
use native.Mathlib.Omega.{arith}
use borrow.Author.Tests.{eqb-false, ne_eqb, ltb-true, ltb-false}
use lib.Dec.{eqb, ltb}
use lib.ListN.{length, take, drop, length-append}
use lib.Seq.{take_at, drop_at}
use Rattle.lists.specs.Index.{pick, part}
use Rattle.lists.specs.Bytes.{le4, rd4, nums, num}
use Rattle.lists.specs.CatLaws.{part_mid, part-first, nums-length, le4-length, rd4-le4, num-nums, num-right}
use Rattle.lists.specs.TestLaws.{decide}
use Rattle.tree.specs.Tree.{opening}
use Rattle.tree.specs.TreeLaws.{opening-length}
use Rattle.protocol.specs.Key.{Key, depth}
use Rattle.protocol.specs.Shares.{View, α, Γ, o}
use Rattle.protocol.specs.Prover.{reply}
use Rattle.protocol.proofs.HonestSum.{α_lt, o_lt}
use Rattle.protocol.proofs.Sizes.{Γ_length}

-- Five lists in a row: the first, the second, and what follows them.
module _ (a b c d e : List ℕ) where
  five-first : (i : ℕ) → length a ≡ i → take i (a ++ b ++ c ++ d ++ e) ≡ a
  five-first i h = ap (take i) (simp append_assoc) ∙ take_at a (b ++ (c ++ (d ++ e))) i h

  five_second : (i n : ℕ) → length a ≡ i → length b ≡ n → part (a ++ b ++ c ++ d ++ e) i n ≡ b
  five_second i n h k = ap (λ x. part x i n) (simp append_assoc) ∙ part_mid a b (c ++ (d ++ e)) i n h k

  five_rest : (i n : ℕ) → length a ≡ i → length b ≡ n → drop (i + n) (a ++ b ++ c ++ d ++ e) ≡ c ++ (d ++ e)
  five_rest i n h k = ap (drop (i + n)) (simp append_assoc) ∙ drop_at (a ++ b) (c ++ (d ++ e)) (i + n) (length-append a b ∙ ap₂ (λ x y. x + y) h k)

-- m numbers, one number, and whatever follows.
module _ (m x : ℕ) (f : ℕ → ℕ) (r : List ℕ) where
  num-one : (j : ℕ) → j < m → f j < 4294967296 → num (nums m f ++ (le4 x ++ r)) j ≡ f j
  num-one j h small = num-nums m f (le4 x ++ r) j h small

  num_two : x < 4294967296 → num (nums m f ++ (le4 x ++ r)) m ≡ x
  unfolding num
  num_two small =
      let at : m ≡ m + 0 = omega arith in
      ap (num (nums m f ++ (le4 x ++ r))) at ∙ num-right (nums m f) (le4 x ++ r) m 0 (nums-length m f)
      ∙ ap rd4 (part-first (le4 x) r 4 (le4-length x)) ∙ rd4-le4 x small

  num_three : (j : ℕ) → num (nums m f ++ (le4 x ++ r)) (m + 1 + j) ≡ num r j
  num_three j =
      let at : m + 1 + j ≡ m + (1 + j) = omega arith in
      ap (num (nums m f ++ (le4 x ++ r))) at ∙ num-right (nums m f) (le4 x ++ r) m (1 + j) (nums-length m f)
      ∙ num-right (le4 x) r 1 j (le4-length x)

-- m numbers and m numbers.
module _ (m : ℕ) (f g : ℕ → ℕ) (j : ℕ) (h : j < m) where
  num-left : f j < 4294967296 → num (nums m f ++ nums m g) j ≡ f j
  num-left small = num-nums m f (nums m g) j h small

  num-last : g j < 4294967296 → num (nums m f ++ nums m g) (m + j) ≡ g j
  num-last small =
      num-right (nums m f) (nums m g) m j (nums-length m f) ∙ ap (λ x. num x j) (sym (append-nil (nums m g)))
      ∙ num-nums m g [] j h small

module _ (K : Key) (v : View) (seed L : List ℕ) (h : ℕ) (whole : v.hid ≡ K.N) (inside : h < K.N)
    (q_small : K.q ≤ 4294967296) (q_least : 0 < K.q) (d_lt : (k : ℕ) → v.d_n k < K.q) (s_lt : (k : ℕ) → v.s_n k < K.q) where
  abbrev numbers : List ℕ
  numbers = drop (16 * depth K + 32) (reply K v seed L h)

  pub reply_seeds : take (16 * depth K) (reply K v seed L h) ≡ opening (depth K) seed h
  unfolding reply
  reply_seeds = five-first (opening (depth K) seed h) (Γ K v h) _ _ _ (16 * depth K) (opening-length (depth K) seed h)

  pub reply_Γ : part (reply K v seed L h) (16 * depth K) 32 ≡ Γ K v h
  unfolding reply
  reply_Γ =
      five_second (opening (depth K) seed h) (Γ K v h) _ _ _ (16 * depth K) 32 (opening-length (depth K) seed h)
      (Γ_length K v h whole inside)

  rest : List ℕ
  rest = pick (eqb (suc h) K.N) [] (nums K.m v.d_n ++ nums K.m v.s_n)

  numbers_are : numbers ≡ nums K.m (λ k. α K v k h) ++ (le4 (o K v L h) ++ rest)
  unfolding reply rest
  numbers_are =
      five_rest (opening (depth K) seed h) (Γ K v h) _ _ _ (16 * depth K) 32 (opening-length (depth K) seed h)
      (Γ_length K v h whole inside)

  rest_is : (suc h ≡ K.N → ⊥) → rest ≡ nums K.m v.d_n ++ nums K.m v.s_n
  unfolding rest
  rest_is other = rw (ne_eqb (suc h) K.N other)

  small : {x : ℕ} → x < K.q → x < 4294967296
  small y = omega arith

  pub reply_α : (k : ℕ) → k < K.m → num numbers k ≡ α K v k h
  reply_α k y = ap (λ x. num x k) numbers_are ∙ num-one K.m (o K v L h) (λ k. α K v k h) rest k y (small (α_lt K v whole q_least k h inside))

  pub reply_o : num numbers K.m ≡ o K v L h
  reply_o = ap (λ x. num x K.m) numbers_are ∙ num_two K.m (o K v L h) (λ k. α K v k h) rest (small (o_lt K v whole q_least L h inside))

  pub reply_d : (suc h ≡ K.N → ⊥) → (k : ℕ) → k < K.m → num numbers (K.m + 1 + k) ≡ v.d_n k
  reply_d other k y =
      ap (λ x. num x (K.m + 1 + k)) numbers_are ∙ num_three K.m (o K v L h) (λ k. α K v k h) rest k
      ∙ ap (λ x. num x k) (rest_is other) ∙ num-left K.m v.d_n v.s_n k y (small (d_lt k))

  pub reply_s : (suc h ≡ K.N → ⊥) → (k : ℕ) → k < K.m → num numbers (2 * K.m + 1 + k) ≡ v.s_n k
  reply_s other k y =
      let at : 2 * K.m + 1 + k ≡ K.m + 1 + (K.m + k) = omega arith in
      ap (num numbers) at
      ∙ ap (λ x. num x (K.m + 1 + (K.m + k))) numbers_are ∙ num_three K.m (o K v L h) (λ k. α K v k h) rest (K.m + k)
      ∙ ap (λ x. num x (K.m + k)) (rest_is other) ∙ num-last K.m v.d_n v.s_n k y (small (s_lt k))

  -- Every number of a reply is below q.
  pub reply-lt : (j : ℕ) → j < K.m + 1 + pick (eqb (suc h) K.N) 0 (2 * K.m) → num numbers j < K.q
  reply-lt j y =
      ⊎_elim
      (λ l. let k : j < K.m = ltb-true _ _ l in rw (reply_α j k) (α_lt K v whole q_least j h inside))
      (λ l. ⊎_elim
      (λ e. rw (← e, reply_o) (o_lt K v whole q_least L h inside))
      (λ k. more (eqb (suc h) K.N) refl y k)
      (eq-or-lt_of_le (ltb-false j K.m l)))
      (decide (ltb j K.m))
    where
      more : (t : Bool) → eqb (suc h) K.N ≡ t → j < K.m + 1 + pick t 0 (2 * K.m) → K.m < j → num numbers j < K.q
      more true e y k = absurd (omega arith)
      more false e y k =
          ⊎_elim
          (λ l. let i : j < 2 * K.m + 1 = ltb-true _ _ l in
          let at : j ≡ K.m + 1 + (j - (K.m + 1)) = omega arith in
          rw (at, reply_d (eqb-false _ _ e) (j - (K.m + 1)) (omega arith)) (d_lt _))
          (λ l. let i : 2 * K.m + 1 ≤ j = ltb-false _ _ l in
          let at : j ≡ 2 * K.m + 1 + (j - (2 * K.m + 1)) = omega arith in
          rw (at, reply_s (eqb-false _ _ e) (j - (2 * K.m + 1)) (omega arith)) (s_lt _))
          (decide (ltb j (2 * K.m + 1)))
