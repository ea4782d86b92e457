-- Places of the work list, and a part of a list that was lent and filled.
-- Assumes nothing.
use Prim.Native.Nat.{ℕ, suc, ◌+◌, ◌*◌, ◌-◌, ◌%◌, ◌<◌, ◌≤◌}
use mathlib.Core.Path.{◌≡◌, sym, ◌∙◌, ap, ap₂}
use mathlib.Core.Bool.{Bool, true, false}
use mathlib.Core.List.{List, [], ◌++◌, append_assoc}
use native.Mathlib.Nat.{mul-le-mul_left, mul-le-mul}
use native.Mathlib.Omega.{arith}
use native.Mathlib.Numerals.{add-one}
use native.Mathlib.Decide.{ℕ_discrete}
use lib.Arith.{lt_of_le-ne}
use lib.Dec.{eqb}
use Rattle.std.specs.Simd.{first_chunks}
use lib.ListN.{length, get_or, take, drop, length-append, length-drop, length-set, set, get_or-append}
use lib.Seq.{length-take-le, get_or-append-add, get_or-take, get_or-drop, get_or-set_same, get_or-set_other}
use Rattle.lists.proofs.Chains.{chunk_at}
use Rattle.lists.specs.Tab.{tab, tab-at, tab-length}
use Rattle.lists.specs.Index.{pick, part}
use Rattle.lists.specs.Bytes.{num}
use Rattle.lists.specs.CatLaws.{num-at}
use Rattle.execution.specs.Shown.{place_of}
use Rattle.numbers.specs.Mod.{Cong, sub}
use Rattle.numbers.proofs.Mod.{cong_eq, cong_trans, cong_mod, cong_mul, cong_same, cong_refl, sub_cong, sub-lt}
use Rattle.numbers.specs.Sum.{sum}
use Rattle.numbers.proofs.Sum.{sum_ext}
use Rattle.streams.specs.Streams.{number}
use Rattle.protocol.specs.Shares.{input}
use Rattle.execution.specs.Lists.{Put, count_of, Drawn, column_of, last_d, last_s}

-- party i's 3m numbers end within all parties' numbers
pub inside : (m N i : ℕ) → i < N → 3 * m * i + 3 * m ≤ 3 * m * N
inside m N i h = let e : 3 * m * suc i ≤ 3 * m * N = mul-le-mul_left (3 * m) h in omega arith

pub small : (m N : ℕ) → m ≤ 128 → N ≤ 32 → 3 * m * N ≤ 12288
small m N h k = let e : m * N ≤ 128 * 32 = mul-le-mul h k in omega arith

pub count-le : (m N per i : ℕ) → m ≤ per → count_of m N per i ≤ per
count-le m N per i h = go (eqb (suc i) N)
  where
    go : (t : Bool) → pick t m per ≤ per
    go true = h
    go false = omega arith

-- a part that was lent and came back as ys
pub put-part : (xs ys : List ℕ) (a c : ℕ) (f : ℕ → ℕ) → a + c ≤ length xs → length ys ≡ c → ((j : ℕ) → j < c → get_or ys j 0 ≡ f j)
    → Put a c f xs (take a xs ++ (ys ++ drop c (drop a xs)))
put-part xs ys a c f h e g =
    record {
      long = simp (length-append, length-drop) (rw (length-take-le a xs (omega arith), e) (omega arith));
      at = λ j k. at j k;
      below = λ x k. get_or-append (take a xs) _ 0 x (rw (length-take-le a xs (omega arith)) k) ∙ get_or-take a xs x 0 k;
      above = λ x k. above x k;
    }
  where
    first : length (take a xs) ≡ a
    first = length-take-le a xs (omega arith)

    shift : (x : ℕ) → get_or (take a xs ++ (ys ++ drop c (drop a xs))) (a + x) 0 ≡ get_or (ys ++ drop c (drop a xs)) x 0
    shift x = ap (λ n. get_or (take a xs ++ (ys ++ drop c (drop a xs))) (n + x) 0) (sym first) ∙ get_or-append-add (take a xs) _ x 0

    at : (j : ℕ) → j < c → get_or (take a xs ++ (ys ++ drop c (drop a xs))) (a + j) 0 ≡ f j
    at j k = shift j ∙ (get_or-append ys _ 0 j (rw e k) ∙ g j k)

    over : (y : ℕ) → get_or (ys ++ drop c (drop a xs)) (c + y) 0 ≡ get_or xs (a + (c + y)) 0
    over y =
        ap (λ n. get_or (ys ++ drop c (drop a xs)) (n + y) 0) (sym e)
        ∙ (get_or-append-add ys _ y 0 ∙ (get_or-drop c (drop a xs) y 0 ∙ get_or-drop a xs (c + y) 0))

    above : (x : ℕ) → a + c ≤ x → get_or (take a xs ++ (ys ++ drop c (drop a xs))) x 0 ≡ get_or xs x 0
    above x k =
        let y : ℕ = x - (a + c) in
        let z : a + (c + y) ≡ x = omega arith in
        rw (← z) (shift (c + y) ∙ over y)

-- the length of a part
pub part-long : (xs : List ℕ) (a c : ℕ) → a + c ≤ length xs → length (take (a + c - a) (drop a xs)) ≡ c
part-long xs a c h =
    let e : a + c - a ≡ c = omega arith in
    rw e (length-take-le c (drop a xs) (simp length-drop (omega arith)))

-- the same for a part that came back filled by a rule
pub put_filled : (xs ys : List ℕ) (a c : ℕ) (f : ℕ → ℕ) → a + c ≤ length xs → ys ≡ tab (length (take (a + c - a) (drop a xs))) f
    → Put a c f xs (take a xs ++ (ys ++ drop (a + c - a) (drop a xs)))
put_filled xs ys a c f h g =
    let z : a + c - a ≡ c = omega arith in
    let long : ys ≡ tab c f = rw (part-long xs a c h) at g in
    rw z (put-part xs ys a c f h (rw long (tab-length c f)) (λ j k. rw long (tab-at c f j k)))

-- number j of the bytes from number d on
num_within : (x : List ℕ) (d l j : ℕ) → j < l → num (take (4 * (d + l) - 4 * d) (drop (4 * d) x)) j ≡ num x (d + j)
num_within x d l j h =
    rw (num-at _ j, num-at x (d + j))
    (ap₂ (λ (a b : ℕ). a + b)
    (ap₂ (λ (a b : ℕ). a + b)
    (ap₂ (λ (a b : ℕ). a + b) (byte _ _ (omega arith) (omega arith)) (ap (λ (a : ℕ). 256 * a) (byte _ _ (omega arith) (omega arith))))
    (ap (λ (a : ℕ). 65536 * a) (byte _ _ (omega arith) (omega arith))))
    (ap (λ (a : ℕ). 16777216 * a) (byte _ _ (omega arith) (omega arith))))
  where
    byte : (i k : ℕ) → i < 4 * l → 4 * d + i ≡ k → get_or (take (4 * (d + l) - 4 * d) (drop (4 * d) x)) i 0 ≡ get_or x k 0
    byte i k e at = get_or-take _ _ i 0 (omega arith) ∙ (get_or-drop (4 * d) x i 0 ∙ ap (λ n. get_or x n 0) at)

-- the same for a part that came back as the numbers of bytes
pub put_read : (xs ys given : List ℕ) (a c d : ℕ) → a + c ≤ length xs
    → ys ≡ tab (length (take (a + c - a) (drop a xs))) (num (take (4 * (d + c) - 4 * d) (drop (4 * d) given)))
    → Put a c (λ j. num given (d + j)) xs (take a xs ++ (ys ++ drop (a + c - a) (drop a xs)))
put_read xs ys given a c d h g =
    let so = put_filled xs ys a c _ h g in
    record { long = so.long; at = λ j k. so.at j k ∙ num_within given d c j k; below = so.below; above = so.above }

-- ---- the parties' numbers, party by party

-- what Γ hashes has no label
pub gamma_label : (e i : ℕ) (x d r : List ℕ) → x ++ (d ++ r) ≡ input 3 e i (x ++ d ++ r)
unfolding input
gamma_label e i x d r = sym (append_assoc x d r)

-- a hidden party draws nothing
pub drawn_hidden : {q m N hid per : ℕ} {leaves work : List ℕ} {n : ℕ} → n ≡ hid → Drawn q m N hid per leaves work n → Drawn q m N hid per leaves work (n + 1)
drawn_hidden {q} {m} {N} {hid} {per} {leaves} {work} {n} e so =
    record { at = λ i j h other k. so.at i j (lt_of_le-ne (omega arith) (λ z. other (z ∙ e))) other k }

-- party n has drawn its numbers, the others' stay
pub drawn_next : {q m N hid per k : ℕ} {leaves seed work after : List ℕ} {n : ℕ} → m ≤ per → per ≤ 3 * m → n < k
    → seed ≡ get_or (first_chunks 16 k leaves) n []
    → Put (3 * m * n) (count_of m N per n) (number q seed 2) work after
    → Drawn q m N hid per leaves work n → Drawn q m N hid per leaves after (n + 1)
drawn_next {q} {m} {N} {hid} {per} {k} {leaves} {seed} {work} {after} {n} low high inside_k is put so = record { at = λ i j h other k. go i j (ℕ_discrete i n) h other k }
  where
    go : (i j : ℕ) → Dec (i ≡ n) → i < n + 1 → (i ≡ hid → ⊥) → j < count_of m N per i
        → get_or after (place_of m i j) 0 ≡ number q (part leaves (16 * i) 16) 2 j
    go i j (yes e) h other k = rw e (put.at j (rw (← e) k) ∙ ap (λ z. number q z 2 j) (is ∙ chunk_at 16 _ n leaves inside_k))
    go i j (no ne) h other k =
        let below : i < n = lt_of_le-ne (omega arith) ne in
        put.below (place_of m i j) (omega (arith, inside m n i below, count-le m N per i low)) ∙ so.at i j below other k

-- a sum and its next term
pub sum_step : (total x i : ℕ) (f : ℕ → ℕ) → total ≡ sum i f → x ≡ f i → total + x ≡ sum (i + 1) f
unfolding sum
sum_step total x i f e h = rw (add-one i, e, h)

-- ---- a list filled in place, from a place on

pub put_next : {a n : ℕ} {f : ℕ → ℕ} {xs ys : List ℕ} {x : ℕ} → Put a n f xs ys → a + n < length ys → x ≡ f n → Put a (n + 1) f xs (set ys (a + n) x)
put_next {a} {n} {f} {xs} {ys} {x} so h e =
    record {
      long = length-set ys (a + n) x ∙ so.long;
      at = λ j k. at j (ℕ_discrete j n) k;
      below = λ y k. get_or-set_other ys (a + n) y x 0 (λ z. let w : ⊥ = omega arith in w) ∙ so.below y k;
      above = λ y k. get_or-set_other ys (a + n) y x 0 (λ z. let w : ⊥ = omega arith in w) ∙ so.above y (omega arith);
    }
  where
    at : (j : ℕ) → Dec (j ≡ n) → j < n + 1 → get_or (set ys (a + n) x) (a + j) 0 ≡ f j
    at j (yes z) k = rw z (get_or-set_same ys (a + n) x 0 h ∙ e)
    at j (no ne) k = get_or-set_other ys (a + n) (a + j) x 0 (λ z. ne (omega arith)) ∙ so.at j (lt_of_le-ne (omega arith) ne)

-- ---- columns

-- a column below a place does not change with what is put from that place on
pub column-same : (m n j a : ℕ) (xs ys : List ℕ) → ((x : ℕ) → x < a → get_or ys x 0 ≡ get_or xs x 0) → ((i : ℕ) → i < n → 3 * m * i + j < a)
    → column_of m n ys j ≡ column_of m n xs j
column-same m n j a xs ys e h = sum_ext n (λ i k. e (3 * m * i + j) (h i k))

pub last_d_same : (q m N k a : ℕ) (xs ys : List ℕ) → 1 ≤ N → k < m → a ≡ 3 * m * (N - 1) + m → ((x : ℕ) → x < a → get_or ys x 0 ≡ get_or xs x 0)
    → last_d q m N ys k ≡ last_d q m N xs k
unfolding last_d
last_d_same q m N k a xs ys pos h e same =
    rw (
      column-same m N k a xs ys same (λ i y. omega (arith, mul-le-mul_left (3 * m) (last i y))),
      column-same m (N - 1) (m + k) a xs ys same (λ i y. omega (arith, inside m (N - 1) i y)),
    )
  where
    last : (i : ℕ) → i < N → i ≤ N - 1
    last i y = omega arith

pub last_s_same : (q m N k x a : ℕ) (xs ys : List ℕ) → k < m → 3 * m * (N - 1) ≤ a → ((x : ℕ) → x < a → get_or ys x 0 ≡ get_or xs x 0)
    → last_s q m N ys x k ≡ last_s q m N xs x k
unfolding last_s
last_s_same q m N k x a xs ys h e same =
    rw (column-same m (N - 1) (2 * m + k) a xs ys same (λ i y. omega (arith, inside m (N - 1) i y)))

-- what the code computes for party N, with reduced numbers
pub last_d_is : (q B b x D : ℕ) → 0 < q → b ≡ B % q → x ≡ (b * b) % q → sub q x D ≡ sub q (B * B) D
last_d_is q B b x D pos eb ex =
    cong_same (sub-lt pos x D) (sub-lt pos (B * B) D) (sub_cong pos (cong_trans (cong_eq ex) (cong_trans (cong_mod q (b * b)) (cong_mul half half))) cong_refl)
  where
    half : Cong q b B
    half = cong_trans (cong_eq eb) (cong_mod q B)

pub last_s_is : (q x D d : ℕ) → 0 < q → d ≡ D % q → sub q x d ≡ sub q x D
last_s_is q x D d pos ed = cong_same (sub-lt pos x d) (sub-lt pos x D) (sub_cong pos cong_refl (cong_trans (cong_eq ed) (cong_mod q D)))
