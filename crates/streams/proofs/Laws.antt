-- Laws for the steps of the proofs.
-- Assumes nothing.
use Rattle.std.proofs.Common.{◌≡◌, refl, sym, subst, ap, ap₂, ◌∙◌, Bool, true, false, List, [], ◌++◌, ℕ, ◌+◌, ◌*◌, ◌-◌, ◌/◌, ◌%◌, ◌≤◌, ◌<◌, min, arith, lt_of_lt_of_le, length, get_or, take, drop, append-nil, drop_of_length-le}
use Rattle.std.specs.Int.{w64, from_le_bytes}
use Rattle.std.specs.Simd.{first_chunks}
use Rattle.std.proofs.lemmas.List.{length-append, length-drop, length-take-le, get_or-take, get_or-append-add, get_or-drop, take_at, drop_at}
use Rattle.std.proofs.Math.ListN.{get_or-append}
use Rattle.std.proofs.lemmas.Bool.{ltb-true, ltb-false}
use Rattle.std.proofs.Math.Dec.{ltb}
use Rattle.lists.proofs.Chains.{chunk_at}
use Rattle.lists.specs.Tab.{tab, tab-length, tab-at, tab_ext, list_is_tab}
use Rattle.aes.specs.Fips197.{key_expansion, cipher, aes128}
use Rattle.aes_wide.specs.Wide.{part, Blocks, counter}
use Rattle.streams.specs.Streams.{block, word64, number}

-- Two halves of 16 that are written one after the other.
pub both_halves : (a b x y z : List ℕ) → x ≡ a → y ≡ b → length x ≡ 16 → length z ≡ 16
    → take 16 (x ++ z) ++ (y ++ drop 16 (drop 16 (x ++ z))) ≡ a ++ b
both_halves a b x y z p q long rest =
    ap₂ (λ u v. u ++ (y ++ drop 16 v)) (take_at x z 16 long) (drop_at x z 16 long)
    ∙ ap (λ v. x ++ (y ++ v)) (drop_of_length-le z {i = 16} (omega arith)) ∙ ap (λ v. x ++ v) (append-nil y) ∙ ap₂ (λ u v. u ++ v) p q

-- Byte p of half h of block l, where the half's first byte stands at place b of the sixteen blocks one after the other.
part-at : (x : List ℕ) (l p : ℕ) → p < 16 → get_or (part x l) p 0 ≡ get_or x (16 * l + p) 0
unfolding part
part-at x l p h = tab-at 16 (λ k. get_or x (16 * l + k) 0) p h

half_at : (x : List ℕ) (l h p b : ℕ) → h < 2 → p < 8 → b ≡ 16 * l + 8 * h → get_or (part x l) (8 * h + p) 0 ≡ get_or (take 8 (drop b x)) p 0
half_at x l h p b hh hp e =
    let place : 16 * l + (8 * h + p) ≡ b + p = omega arith in
    part-at x l (8 * h + p) (omega arith)
    ∙ ap (λ k. get_or x k 0) place
    ∙ sym (get_or-take 8 (drop b x) p 0 hp ∙ get_or-drop b x p 0)

half_word : (x : List ℕ) (l h b : ℕ) → h < 2 → b ≡ 16 * l + 8 * h → from_le_bytes w64 (take 8 (drop b x)) ≡ word64 (part x l) (8 * h)
unfolding word64
half_word x l h b hh e =
    let bytes = take 8 (drop b x) in
    let at : (p : ℕ) → p < 8 → get_or (part x l) (8 * h + p) 0 ≡ get_or bytes p 0 = λ p hp. half_at x l h p b hh hp e in
    let none : 8 * h ≡ 8 * h + 0 = omega arith in
    let first : get_or (part x l) (8 * h) 0 ≡ get_or bytes 0 0 = ap (λ k. get_or (part x l) k 0) none ∙ at 0 (omega arith) in
    omega
    (arith, first, at 1 (omega arith), at 2 (omega arith), at 3 (omega arith), at 4 (omega arith), at 5 (omega arith), at 6 (omega arith), at 7 (omega arith))

-- Eight bytes are one half of a block.
pub word_is : (x : List ℕ) {words : List (List ℕ)} (k i : ℕ) → words ≡ first_chunks 8 k x → i < k
    → from_le_bytes w64 (get_or words i []) ≡ word64 (part x (i / 2)) (8 * (i % 2))
word_is x k i e h =
    ap (λ (l : List (List ℕ)). from_le_bytes w64 (get_or l i [])) e
    ∙ ap (λ (l : List ℕ). from_le_bytes w64 l) (chunk_at 8 k i x h)
    ∙ half_word x (i / 2) (i % 2) (8 * i) (omega arith) (omega arith)

-- Numbers from the blocks of sixteen counters.
pub lane-numbers : (w x : List ℕ) (j q n : ℕ) → n ≤ 32 → Blocks x (λ l. cipher w (counter (j + l)))
    → tab n (λ i. word64 (part x (i / 2)) (8 * (i % 2)) % q) ≡ tab n (λ i. word64 (cipher w (counter (j + i / 2))) (8 * (i % 2)) % q)
lane-numbers w x j q n small X =
    tab_ext n (λ i. word64 (part x (i / 2)) (8 * (i % 2)) % q) (λ i. word64 (cipher w (counter (j + i / 2))) (8 * (i % 2)) % q)
    (λ k h. ap (λ b. word64 b (8 * (k % 2)) % q) (X.each (k / 2) (omega arith)))

-- Number 32 b + k from block c on is number k from block c + 16 b on.
pub number_from : (q c b k : ℕ) (seed w : List ℕ) → w ≡ key_expansion seed
    → word64 (cipher w (counter (c + 16 * b + k / 2))) (8 * (k % 2)) % q ≡ number q seed c (32 * b + k)
unfolding number block aes128
number_from q c b k seed w key =
    let place : c + 16 * b + k / 2 ≡ c + (32 * b + k) / 2 = omega arith in
    let half : k % 2 ≡ (32 * b + k) % 2 = omega arith in
    λ t. word64 (cipher (key t) (counter (place t))) (8 * half t) % q

-- A list of n places, of which those below i hold the entries of f. i may lie past the end.
pub record Batches (n : ℕ) (r : List ℕ) (i : ℕ) (f : ℕ → ℕ) : Type 0 where
  pub long : length r ≡ n
  pub filled : (k : ℕ) → k < i → k < n → get_or r k 0 ≡ f k

part_long : (i e : ℕ) (r : List ℕ) → e ≤ length r → length (take (e - i) (drop i r)) ≡ e - i
part_long i e r h = length-take-le (e - i) (drop i r) (simp length-drop (omega arith))

-- The next 32 places are filled, or those that are left if they are fewer.
pub batches_next : {n : ℕ} {r : List ℕ} {i : ℕ} {f : ℕ → ℕ} (e : ℕ) (y : List ℕ) (g : ℕ → ℕ) → Batches n r i f → i < length r
    → e ≡ min (length r) (i + 32) → y ≡ tab (length (take (e - i) (drop i r))) g → ((k : ℕ) → g k ≡ f (i + k))
    → Batches n (take i r ++ (y ++ drop (e - i) (drop i r))) (i + 32) f
batches_next {n} {r} {i} {f} e y g so h size is same =
    record { long = whole_long; filled = λ k b inside. go k inside b (ltb k i) refl }
  where
    before : length (take i r) ≡ i
    before = length-take-le i r (omega arith)

    filling : y ≡ tab (e - i) g
    filling = is ∙ ap (λ k. tab k g) (part_long i e r (omega arith))

    wide : length y ≡ e - i
    wide = ap (λ l. length l) filling ∙ tab-length (e - i) g

    whole_long : length (take i r ++ (y ++ drop (e - i) (drop i r))) ≡ n
    whole_long = simp (length-append, length-drop) (omega (arith, before, wide, so.long))

    go : (k : ℕ) → k < n → k < i + 32 → (t : Bool) → ltb k i ≡ t → get_or (take i r ++ (y ++ drop (e - i) (drop i r))) k 0 ≡ f k
    go k inside b true t =
        get_or-append (take i r) (y ++ drop (e - i) (drop i r)) 0 k (omega (arith, before, ltb-true k i t))
        ∙ get_or-take i r k 0 (ltb-true k i t) ∙ so.filled k (ltb-true k i t) inside
    go k inside b false t =
        let past : i ≤ k = ltb-false k i t in
        let low : k - i < e - i = omega (arith, so.long) in
        let place : length (take i r) + (k - i) ≡ k = omega (arith, before) in
        let back : i + (k - i) ≡ k = omega arith in
        ap (λ p. get_or (take i r ++ (y ++ drop (e - i) (drop i r))) p 0) (sym place)
        ∙ get_or-append-add (take i r) (y ++ drop (e - i) (drop i r)) (k - i) 0
        ∙ get_or-append y (drop (e - i) (drop i r)) 0 (k - i) (omega (arith, wide))
        ∙ ap (λ l. get_or l (k - i) 0) filling ∙ tab-at (e - i) g (k - i) low ∙ same (k - i) ∙ ap f back

-- The same, the count of places written another way.
pub recounted : {n : ℕ} {r : List ℕ} {i j : ℕ} {f : ℕ → ℕ} → i ≡ j → Batches n r i f → Batches n r j f
recounted {n} {r} {i} {j} {f} e so = subst (λ (k : ℕ). Batches n r k f) e so

pub batches_done : {n : ℕ} {r : List ℕ} {i : ℕ} {f : ℕ → ℕ} → Batches n r i f → n ≤ i → r ≡ tab n f
batches_done {n} {r} {i} {f} so all = list_is_tab n r f so.long (λ k h. so.filled k (lt_of_lt_of_le h all) h)
