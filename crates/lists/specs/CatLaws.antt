-- Laws of joined lists, of their parts, and of numbers of four bytes.
-- Assumes nothing.
use Prim.Native.Nat.{ℕ, zero, suc, ◌+◌, ◌*◌, ◌-◌, ◌/◌, ◌%◌, ◌<◌, ◌≤◌}
use Rattle.std.specs.Prelude.{◌≡◌, Bool, get_or, take, drop}
use Rattle.std.proofs.Math.Path.{refl, sym, ap, ap₂}
use Rattle.std.proofs.Common.{◌∙◌, add-zero, mod-eq_of_lt, not-suc-le-zero, le_of_suc-le-suc, eq-or-lt_of_le, add-one, length-drop, drop_of_length-le, length-take-le, take_all, take_at, drop_at, drop-drop, take-take, get_or-take, get_or-drop}
use Rattle.std.proofs.Math.Bool.{true, false}
use Rattle.std.proofs.Math.Logic.{⊎_elim}
use mathlib.Core.List.{List, [], ◌∷◌, ◌++◌, append-nil, append_assoc}
use Rattle.std.proofs.Math.Nat.{add-suc, sub-zero, zero-sub, suc-sub-suc}
use native.Mathlib.Omega.{arith}
use Rattle.std.proofs.Math.ListN.{length, length-append}
use Rattle.std.proofs.Math.Seq.{take-nil}
use Rattle.std.proofs.lemmas.List.{take-append-le, drop-append-le}
use Rattle.lists.specs.Tab.{tab, list-tab}
use Rattle.lists.specs.Index.{pick, cat, count, part}
use Rattle.lists.specs.Bytes.{le4, rd4, words, nums, num}

-- ---- joined lists
module _ {A : Type 0} where
  pub cat_zero : (f : ℕ → List A) → cat 0 f ≡ []
  unfolding cat
  cat_zero f = refl

  pub cat_suc : (n : ℕ) (f : ℕ → List A) → cat (suc n) f ≡ cat n f ++ f n
  unfolding cat
  cat_suc n f = refl

  pub cat-more : (n : ℕ) (f : ℕ → List A) → cat (n + 1) f ≡ cat n f ++ f n
  cat-more n f = rw add-one (cat_suc n f)

  pub cat_ext : (n : ℕ) {f g : ℕ → List A} → ((i : ℕ) → i < n → f i ≡ g i) → cat n f ≡ cat n g
  unfolding cat
  cat_ext zero h = refl
  cat_ext (suc n) h = ap₂ (λ x y. x ++ y) (cat_ext n (λ i k. h i (omega arith))) (h n (omega arith))

  pub cat_split : (a b : ℕ) (f : ℕ → List A) → cat (a + b) f ≡ cat a f ++ cat b (λ i. f (a + i))
  unfolding cat
  cat_split a zero f = rw (add-zero, append-nil)
  cat_split a (suc b) f = rw add-suc (ap (λ x. x ++ f (a + b)) (cat_split a b f) ∙ append_assoc (cat a f) (cat b (λ i. f (a + i))) (f (a + b)))

  pub cat-first : (n : ℕ) (f : ℕ → List A) → cat (suc n) f ≡ f 0 ++ cat n (λ i. f (suc i))
  unfolding cat
  cat-first zero f = sym (append-nil (f 0))
  cat-first (suc n) f = ap (λ x. x ++ f (suc n)) (cat-first n f) ∙ append_assoc (f 0) (cat n (λ i. f (suc i))) (f (suc n))

  -- The length of a joined list, by any count `size` of what stands before entry i.
  pub cat-length_by : (n : ℕ) (f : ℕ → List A) (size : ℕ → ℕ) → size 0 ≡ 0 → ((i : ℕ) → i < n → size (suc i) ≡ size i + length (f i)) → length (cat n f) ≡ size n
  unfolding cat
  cat-length_by zero f size e h = sym e
  cat-length_by (suc n) f size e h =
      length-append (cat n f) (f n)
      ∙ ap (λ x. x + length (f n)) (cat-length_by n f size e (λ i k. h i (omega arith)))
      ∙ sym (h n (omega arith))

  -- n entries of one length.
  pub cat-length : (n w : ℕ) (f : ℕ → List A) → ((i : ℕ) → i < n → length (f i) ≡ w) → length (cat n f) ≡ n * w
  cat-length n w f h = cat-length_by n f (λ i. i * w) (omega arith) (λ i k. let e : length (f i) ≡ w = h i k in omega arith)

  -- Entries of equal lengths.
  pub cat-lengths : (n : ℕ) (f g : ℕ → List A) → ((i : ℕ) → i < n → length (f i) ≡ length (g i)) → length (cat n f) ≡ length (cat n g)
  unfolding cat
  cat-lengths n f g h =
      cat-length_by n f (λ i. length (cat i g)) refl
      (λ i k. length-append (cat i g) (g i) ∙ ap (λ x. length (cat i g) + x) (sym (h i k)))

  -- Of the entries where p holds, w each.
  pub cat-length-count : (n w : ℕ) (p : ℕ → Bool) (f : ℕ → List A) → ((i : ℕ) → i < n → length (f i) ≡ pick (p i) w 0) → length (cat n f) ≡ w * count n p
  unfolding count
  cat-length-count n w p f h = cat-length_by n f (λ i. w * count i p) (omega arith) (λ i k. step i (p i) (h i k))
    where
      step : (i : ℕ) (t : Bool) → length (f i) ≡ pick t w 0 → w * (count i p + pick t 1 0) ≡ w * count i p + length (f i)
      step i true e = omega arith
      step i false e = omega arith

  -- ---- parts
  pub part_length : (x : List A) (i n : ℕ) → i + n ≤ length x → length (part x i n) ≡ n
  part_length x i n h = length-take-le n (drop i x) (simp length-drop (omega arith))

  -- What stands between a and c.
  pub part_mid : (a b c : List A) (i n : ℕ) → length a ≡ i → length b ≡ n → part (a ++ b ++ c) i n ≡ b
  part_mid a b c i n e k = rw (append_assoc, drop_at a (b ++ c) i e) (take_at b c n k)

  -- What stands at the start, and at the end.
  pub part-first : (b c : List A) (n : ℕ) → length b ≡ n → part (b ++ c) 0 n ≡ b
  part-first b c n k = part_mid [] b c 0 n refl k

  pub part-last : (a b : List A) (i n : ℕ) → length a ≡ i → length b ≡ n → part (a ++ b) i n ≡ b
  part-last a b i n e k = rw (drop_at a b i e) (take_all n b (omega arith))

  -- A part that lies within the first of two lists, or within the second.
  pub part_left : (a c : List A) (i n : ℕ) → i + n ≤ length a → part (a ++ c) i n ≡ part a i n
  part_left a c i n h =
      ap (take n) (drop-append-le i a c (omega arith)) ∙ take-append-le n (drop i a) c (simp length-drop (omega arith))

  pub part_right : (a c : List A) (k i n : ℕ) → length a ≡ k → part (a ++ c) (k + i) n ≡ part c i n
  part_right a c k i n e = ap (take n) (sym (drop-drop i k (a ++ c)) ∙ ap (drop i) (drop_at a c k e))

  -- A part of a part.
  pub drop-take : (j n : ℕ) (l : List A) → drop j (take n l) ≡ take (n - j) (drop j l)
  drop-take zero n l = ap (λ k. take k l) (sym (sub-zero n))
  drop-take (suc j) zero l = ap (λ k. take k (drop (suc j) l)) (sym (zero-sub (suc j)))
  drop-take (suc j) (suc n) [] = sym (take-nil (suc n - suc j))
  drop-take (suc j) (suc n) (x ∷ l) = drop-take j n l ∙ ap (λ k. take k (drop j l)) (sym (suc-sub-suc n j))

  pub part-part : (x : List A) (i n j k : ℕ) → j + k ≤ n → part (part x i n) j k ≡ part x (i + j) k
  part-part x i n j k h =
      ap (take k) (drop-take j n (drop i x))
      ∙ take-take k (n - j) (drop j (drop i x)) (omega arith)
      ∙ ap (take k) (drop-drop j i x)

  -- The first k of a part, and the rest of it.
  pub take_part : (x : List A) (i n k : ℕ) → k ≤ n → take k (part x i n) ≡ part x i k
  take_part x i n k h = take-take k n (drop i x) h

  pub drop-part : (x : List A) (i n k : ℕ) → drop k (part x i n) ≡ part x (i + k) (n - k)
  drop-part x i n k = drop-take k n (drop i x) ∙ ap (take (n - k)) (drop-drop k i x)

  -- Entry i of a joined list with whatever follows it, from the lengths of what stands before it and of itself.
  pub cat-part : (n : ℕ) (f : ℕ → List A) (r : List A) (i a w : ℕ) → i < n → length (cat i f) ≡ a → length (f i) ≡ w → part (cat n f ++ r) a w ≡ f i
  unfolding cat
  cat-part zero f r i a w h e k = absurd (not-suc-le-zero h)
  cat-part (suc n) f r i a w h e k =
      ⊎_elim
      (λ z. here z)
      (λ below. ap (λ x. part x a w) (append_assoc (cat n f) (f n) r) ∙ cat-part n f (f n ++ r) i a w below e k)
      (eq-or-lt_of_le (le_of_suc-le-suc h))
    where
      here : i ≡ n → part (cat n f ++ f n ++ r) a w ≡ f i
      here z = rw (← z) (part_mid (cat i f) (f i) r a w e k)

-- ---- numbers of four bytes
pub le4-length : (x : ℕ) → length (le4 x) ≡ 4
unfolding le4
le4-length x = refl

pub rd4-le4 : (x : ℕ) → x < 4294967296 → rd4 (le4 x) ≡ x
unfolding le4 rd4
rd4-le4 x h =
    let two : x / 65536 ≡ x / 256 / 256 = omega arith in
    let three : x / 16777216 ≡ x / 65536 / 256 = omega arith in
    let top : x / 16777216 % 256 ≡ x / 16777216 = mod-eq_of_lt (omega arith) in
    omega arith

pub nums_suc : (n : ℕ) (f : ℕ → ℕ) → nums (suc n) f ≡ nums n f ++ le4 (f n)
unfolding nums cat
nums_suc n f = refl

pub nums_ext : (n : ℕ) {f g : ℕ → ℕ} → ((k : ℕ) → k < n → f k ≡ g k) → nums n f ≡ nums n g
unfolding nums
nums_ext n h = cat_ext n (λ k y. ap le4 (h k y))

pub nums-length : (n : ℕ) (f : ℕ → ℕ) → length (nums n f) ≡ 4 * n
unfolding nums
nums-length n f = cat-length n 4 (λ k. le4 (f k)) (λ k y. le4-length (f k)) ∙ omega arith

pub nums_split : (a b : ℕ) (f : ℕ → ℕ) → nums (a + b) f ≡ nums a f ++ nums b (λ k. f (a + k))
unfolding nums
nums_split a b f = cat_split a b (λ k. le4 (f k))

-- The four bytes of number j of joined numbers with whatever follows them, and the number.
pub nums-part : (n : ℕ) (f : ℕ → ℕ) (r : List ℕ) (j : ℕ) → j < n → part (nums n f ++ r) (4 * j) 4 ≡ le4 (f j)
unfolding nums
nums-part n f r j h = cat-part n (λ k. le4 (f k)) r j (4 * j) 4 h (nums-length j f) (le4-length (f j))

pub num-nums : (n : ℕ) (f : ℕ → ℕ) (r : List ℕ) (j : ℕ) → j < n → f j < 4294967296 → num (nums n f ++ r) j ≡ f j
unfolding num
num-nums n f r j h small = ap rd4 (nums-part n f r j h) ∙ rd4-le4 (f j) small

-- Number j of two joined lists: of the first, or of the second.
pub num-left : (a c : List ℕ) (j : ℕ) → 4 * j + 4 ≤ length a → num (a ++ c) j ≡ num a j
unfolding num
num-left a c j h = ap rd4 (part_left a c (4 * j) 4 h)

pub num-right : (a c : List ℕ) (k j : ℕ) → length a ≡ 4 * k → num (a ++ c) (k + j) ≡ num c j
unfolding num
num-right a c k j e =
    let at : 4 * (k + j) ≡ 4 * k + 4 * j = omega arith in
    ap (λ i. rd4 (part (a ++ c) i 4)) at ∙ ap rd4 (part_right a c (4 * k) (4 * j) 4 e)

-- Number j by its four bytes.
pub num-at :
    (x : List ℕ) (j : ℕ) → num x j ≡ get_or x (4 * j) 0 + 256 * get_or x (4 * j + 1) 0 + 65536 * get_or x (4 * j + 2) 0 + 16777216 * get_or x (4 * j + 3) 0
unfolding num rd4
num-at x j =
    rw (
      get_or-take 4 (drop (4 * j) x) 0 0 (omega arith),
      get_or-take 4 (drop (4 * j) x) 1 0 (omega arith),
      get_or-take 4 (drop (4 * j) x) 2 0 (omega arith),
      get_or-take 4 (drop (4 * j) x) 3 0 (omega arith),
      get_or-drop (4 * j) x 0 0,
      get_or-drop (4 * j) x 1 0,
      get_or-drop (4 * j) x 2 0,
      get_or-drop (4 * j) x 3 0,
      add-zero,
    )

-- A number past the end is 0.
pub num_past : (x : List ℕ) (j : ℕ) → length x ≤ 4 * j → num x j ≡ 0
unfolding num rd4
num_past x j h = rw (drop_of_length-le x h)

-- ---- numbers of a list
pub words_append : (xs ys : List ℕ) → words (xs ++ ys) ≡ words xs ++ words ys
unfolding words
words_append [] ys = refl
words_append (x ∷ xs) ys = ap (λ r. le4 x ++ r) (words_append xs ys) ∙ sym (append_assoc (le4 x) (words xs) (words ys))

pub words-length : (xs : List ℕ) → length (words xs) ≡ 4 * length xs
unfolding words
words-length [] = refl
words-length (x ∷ xs) =
    let e : length (words xs) ≡ 4 * length xs = words-length xs in
    let k : length (le4 x) ≡ 4 = le4-length x in
    length-append (le4 x) (words xs) ∙ omega arith

pub words-tab : (n : ℕ) (f : ℕ → ℕ) → words (tab n f) ≡ nums n f
unfolding words tab nums
words-tab zero f = sym (cat_zero (λ k. le4 (f k)))
words-tab (suc n) f = ap (λ r. le4 (f 0) ++ r) (words-tab n (λ k. f (suc k))) ∙ sym (cat-first n (λ k. le4 (f k)))

pub words-nums : (xs : List ℕ) → words xs ≡ nums (length xs) (λ k. get_or xs k 0)
words-nums xs = ap words (list-tab xs) ∙ words-tab (length xs) (λ k. get_or xs k 0)
