-- From the parts and rows that the code feeds to the hash inputs of document 01.
-- Assumes nothing.
use Prim.Native.Nat.{ℕ, zero, suc, ◌+◌, ◌*◌, ◌-◌, ◌%◌, ◌<◌, ◌≤◌}
use mathlib.Core.Bool.{Bool, true, false}
use mathlib.Core.Path.{◌≡◌, refl, sym, ◌∙◌, ap, ap₂}
use mathlib.Core.List.{List, [], ◌∷◌, ◌++◌}
use native.Mathlib.Numerals.{add-one}
use native.Mathlib.Omega.{arith}
use native.Mathlib.Decide.{ℕ_discrete}
use borrow.Author.Tests.{eq-eqb, ne_eqb}
use lib.Dec.{eqb}
use lib.ListN.{length, get_or, take, drop}
use lib.Seq.{get_or-take, get_or-drop}
use Rattle.lists.specs.Tab.{tab, tab-at, tab-length, tab_ext, list_is_tab}
use Rattle.lists.specs.Index.{pick, cat, part}
use Rattle.lists.specs.Bytes.{words, nums, num}
use Rattle.lists.specs.CatLaws.{cat-more, cat_ext, nums_ext, words-tab, part_length}
use Rattle.numbers.specs.Mod.{sub}
use Rattle.numbers.specs.Sum.{sum}
use Rattle.std.specs.List.{sum_by}
use Rattle.std.proofs.lemmas.List.Sums.{sum_by-cons}
use Rattle.numbers.proofs.Sum.{sum_ext}
use Rattle.sha_core.specs.Fips180.{sha256}
use Rattle.streams.specs.Streams.{block}
use Rattle.sha.specs.State.{Fed, fed_join}
use Rattle.sha.specs.declared.Sha.{Sha}
use Rattle.protocol.specs.Key.{Key, depth}
use Rattle.protocol.specs.Shares.{View, input, b, s, α, αsum, Γin, Γ, hin, Ωin, Πin, o, Ψin, dealt}
use Rattle.execution.specs.Shown.{Sized, place_of}
use Rattle.execution.specs.Prepared.{Opened}
use Rattle.execution.specs.Lists.{alpha_at}
use Rattle.execution.proofs.Laws.{inside}
use Rattle.views.specs.Seen.{gamma_open, gamma_at, ForH, ForΩ, ForΠ}

-- ---- parts and rows
-- the numbers of a part, four bytes each
pub words-part : (x : List ℕ) (a n : ℕ) → a + n ≤ length x → words (part x a n) ≡ nums n (λ k. get_or x (a + k) 0)
words-part x a n h =
    ap words (list_is_tab n (part x a n) (λ k. get_or x (a + k) 0) (part_length x a n h) (λ k y. get_or-take n (drop a x) k 0 y ∙ get_or-drop a x k 0))
    ∙ words-tab n (λ k. get_or x (a + k) 0)

-- a sum with its first term apart
sum_first : (n : ℕ) (f : ℕ → ℕ) → f 0 + sum n (λ i. f (suc i)) ≡ sum (suc n) f
unfolding sum
sum_first zero f = omega arith
sum_first (suc n) f = let e : f 0 + sum n (λ i. f (suc i)) ≡ sum (suc n) f = sum_first n f in omega arith

-- the sum of a list's entries, as std folds it
pub sum_list : (xs : List ℕ) → sum_by (λ (x : ℕ). x) xs ≡ sum (length xs) (λ i. get_or xs i 0)
unfolding sum
sum_list [] = refl
sum_list (x ∷ xs) = sum_by-cons (λ (n : ℕ). n) x xs ∙ ap (λ n. x + n) (sum_list xs) ∙ sum_first (length xs) (λ i. get_or (x ∷ xs) i 0)

-- the sum of a list's entries by the rule of the list
pub sum-tab : (n : ℕ) (xs : List ℕ) (f : ℕ → ℕ) → xs ≡ tab n f → sum (length xs) (λ i. get_or xs i 0) ≡ sum n f
sum-tab n xs f e = rw (e, tab-length n f) (sum_ext n (λ i h. tab-at n f i h))

-- one more item is fed
pub fed_next : {z a r : Sha} {d : List ℕ} (i : ℕ) (f : ℕ → List ℕ) → Fed z (cat i f) a → Fed a d r → d ≡ f i → Fed z (cat (i + 1) f) r
fed_next i f p q e = rw (cat-more i f, ← e) (fed_join p q)

pub fed_last : {z a r : Sha} {d x : List ℕ} (i n : ℕ) (f : ℕ → List ℕ) → Fed z (cat i f) a → i ≡ n → Fed a d r → d ≡ x → Fed z (cat n f ++ x) r
fed_last i n f p e q g = rw (← e, ← g) (fed_join p q)

-- the label of an execution
next : {x e : ℕ} → x ≡ e → e + 1 ≡ suc x
next {x} {e} h = omega arith

-- ---- places
-- a part that lies within a list
pub within : (x : List ℕ) (at w : ℕ) → at + w ≤ length x → length (take (at + w - at) (drop at x)) ≡ w
within x at w h =
    let z : at + w - at ≡ w = omega arith in
    rw z (part_length x at w h)

-- ---- Γ and h(e)
pub h_label : (e : ℕ) (x : List ℕ) → x ≡ input 2 e 0 x
unfolding input
h_label e x = refl

pub gamma_is_open : (m N e : ℕ) (leaves work : List ℕ) (i : ℕ) {count : ℕ} {seed r : List ℕ} → seed ≡ part leaves (16 * i) 16 → count ≡ pick (eqb (suc i) N) m 0
    → r ≡ block seed 0
    → sha256 (input 3 (e + 1) (i + 1) (seed ++ words (take (3 * m * i + m + count - (3 * m * i + m)) (drop (3 * m * i + m) work)) ++ r))
    ≡ gamma_open m N e leaves work i
unfolding gamma_open
gamma_is_open m N e leaves work i {count} is few last =
    let y : 3 * m * i + m + count - (3 * m * i + m) ≡ count = omega arith in
    rw (last, is, y, few, some (eqb (suc i) N)) refl
  where
    some : (t : Bool) → take (pick t m 0) (drop (3 * m * i + m) work) ≡ pick t (part work (3 * m * i + m) m) []
    some true = refl
    some false = refl

pub gamma_hidden : (m N hid e : ℕ) (given leaves work : List ℕ) (i : ℕ) → i ≡ hid → given ≡ gamma_at m N hid e given leaves work i
unfolding gamma_at
gamma_hidden m N hid e given leaves work i h = rw (eq-eqb i hid h)

pub gamma_shown : (m N hid e : ℕ) (given leaves work : List ℕ) (i : ℕ) → (i ≡ hid → ⊥)
    → gamma_open m N e leaves work i ≡ gamma_at m N hid e given leaves work i
unfolding gamma_at
gamma_shown m N hid e given leaves work i h = rw (ne_eqb i hid h)

module _ {m N hid e : ℕ} {given leaves work : List ℕ} {K : Key} {v : View} (so : ForH m N hid e given leaves work K v) (long : 3 * m * N ≤ length work) where
  -- party N's numbers d, where it is open
  d_words : (i : ℕ) → i < N → (i ≡ hid → ⊥) → suc i ≡ N → words (part work (3 * m * i + m) m) ≡ nums m v.d_n
  d_words i h other last =
      words-part work (3 * m * i + m) m (omega (arith, inside m N i h))
      ∙ nums_ext m
      (λ k y.
      let z : N - 1 ≡ i = omega arith in
      let w : 3 * m * i + m + k ≡ 3 * m * i + (m + k) = omega arith in
      ap (λ n. get_or work n 0) w ∙ sym (rw z at (so.d_n (λ y. other (omega arith)) k y)))

  pub d_part : (i : ℕ) → i < N → (i ≡ hid → ⊥) → Dec (suc i ≡ N)
      → words (pick (eqb (suc i) N) (part work (3 * m * i + m) m) []) ≡ pick (eqb (suc i) N) (nums m v.d_n) []
  unfolding words
  d_part i h other (yes z) = rw (eq-eqb (suc i) N z) (d_words i h other z)
  d_part i h other (no z) = rw (ne_eqb (suc i) N z)

  pub gamma_is : (i : ℕ) → i < N → gamma_at m N hid e given leaves work i ≡ Γ K v i
  unfolding gamma_at gamma_open Γ Γin
  gamma_is i h = rw (so.hidden, so.ex, so.parties, so.columns, add-one e, add-one i) (go (ℕ_discrete i hid))
    where
      seed : (i ≡ hid → ⊥) → part leaves (16 * i) 16 ≡ v.seed i
      seed other = so.seeds.at i (rw so.parties h) (λ y. other (y ∙ so.hidden))

      go : Dec (i ≡ hid) → pick (eqb i hid) given (sha256 (input 3 (suc e) (suc i)
          (part leaves (16 * i) 16 ++ words (pick (eqb (suc i) N) (part work (3 * m * i + m) m) []) ++ block (part leaves (16 * i) 16) 0)))
          ≡ pick (eqb i hid) v.Γh (sha256 (input 3 (suc e) (suc i) (v.seed i ++ pick (eqb (suc i) N) (nums m v.d_n) [] ++ block (v.seed i) 0)))
      go (yes z) = rw (eq-eqb i hid z) (sym (so.Γh (omega arith)))
      go (no z) = rw (ne_eqb i hid z, seed z, d_part i h z (ℕ_discrete (suc i) N))

  pub h_is : input 2 (e + 1) 0 (cat N (gamma_at m N hid e given leaves work)) ≡ hin K v
  unfolding hin
  h_is =
      ap₂ (λ n x. input 2 n 0 x) (next so.ex)
      (cat_ext N (λ i h. gamma_is i h) ∙ ap (λ n. cat n (Γ K v)) (sym so.parties))

-- ---- Ω
pub omega_written : (m N e : ℕ) {seed : List ℕ} (leaves work : List ℕ) → seed ≡ part leaves (16 * (N - 1)) 16
    → words (take (3 * m * (N - 1) + 2 * m + m - (3 * m * (N - 1) + 2 * m)) (drop (3 * m * (N - 1) + 2 * m) work)) ++ block seed 1
    ≡ input 4 (e + 1) N (words (part work (3 * m * (N - 1) + 2 * m) m) ++ block (part leaves (16 * (N - 1)) 16) 1)
unfolding input
omega_written m N e leaves work is =
    let y : 3 * m * (N - 1) + 2 * m + m - (3 * m * (N - 1) + 2 * m) ≡ m = omega arith in
    rw (is, y) refl

pub omega_is : {m N e : ℕ} {leaves work : List ℕ} {K : Key} {v : View} → ForΩ m N e leaves work K v → 1 ≤ N → 3 * m * N ≤ length work
    → input 4 (e + 1) N (words (part work (3 * m * (N - 1) + 2 * m) m) ++ block (part leaves (16 * (N - 1)) 16) 1) ≡ Ωin K v
unfolding Ωin
omega_is {m} {N} {e} {leaves} {work} {K} {v} so least long =
    let room : 3 * m * (N - 1) + 3 * m ≤ 3 * m * N = inside m N (N - 1) (omega arith) in
    let numbers : words (part work (3 * m * (N - 1) + 2 * m) m) ≡ nums m v.s_n =
    words-part work (3 * m * (N - 1) + 2 * m) m (omega arith)
    ∙ nums_ext m
    (λ k h.
    let w : 3 * m * (N - 1) + 2 * m + k ≡ 3 * m * (N - 1) + (2 * m + k) = omega arith in
    ap (λ n. get_or work n 0) w ∙ sym (so.s_n k h)) in
    rw (so.ex, so.parties, so.columns, add-one e, numbers, so.seed)

-- ---- α, Π and the sums of α
pub alpha_hidden : (q m hid : ℕ) (given work : List ℕ) (k i : ℕ) → i ≡ hid → num given k ≡ alpha_at q m hid given work k i
unfolding alpha_at
alpha_hidden q m hid given work k i e = rw (eq-eqb i hid e)

pub alpha_shown : (q m hid : ℕ) (given work : List ℕ) (k i : ℕ) → (i ≡ hid → ⊥)
    → sub q (get_or work (place_of m i (2 * m + k)) 0) (get_or work (place_of m i k) 0) ≡ alpha_at q m hid given work k i
unfolding alpha_at
alpha_shown q m hid given work k i e = rw (ne_eqb i hid e)

module _ {q m N hid e : ℕ} {given work : List ℕ} {K : Key} {v : View} (so : ForΠ q m N hid e given work K v) where
  pub alpha_is : (k i : ℕ) → k < m → i < N → alpha_at q m hid given work k i ≡ α K v k i
  unfolding alpha_at α
  alpha_is k i kh ih =
      go (ℕ_discrete i hid)
      ∙ ap₂ (λ h p. pick (eqb i h) (v.αh k) (sub p (s K v k i) (b K v k i))) (sym so.hidden) (sym so.sized.modulus)
    where
      go : Dec (i ≡ hid)
          → pick (eqb i hid) (num given k) (sub q (get_or work (place_of m i (2 * m + k)) 0) (get_or work (place_of m i k) 0))
          ≡ pick (eqb i hid) (v.αh k) (sub q (s K v k i) (b K v k i))
      go (yes z) = rw (eq-eqb i hid z) (sym (so.αh (omega arith) k kh))
      go (no z) =
          let x : 0 + k ≡ k = omega arith in
          rw (ne_eqb i hid z, so.ss.at k i kh ih z, rw x at (so.bs.at k i kh ih z))

  pub pi_is : (κ : List ℕ) → input 6 (e + 1) 0 (cat m (λ k. nums N (alpha_at q m hid given work k)) ++ block κ (2 * e)) ≡ Πin K v κ
  unfolding Πin
  pi_is κ =
      ap₂ (λ n x. input 6 n 0 (x ++ block κ (2 * e))) (next so.ex)
      (cat_ext m (λ k kh. nums_ext N (λ i ih. alpha_is k i kh ih)) ∙ ap₂ (λ a c. cat a (λ k. nums c (α K v k))) (sym so.sized.columns) (sym so.sized.parties))
      ∙ ap (λ n. input 6 (suc v.ex) 0 (cat K.m (λ k. nums K.N (α K v k)) ++ block κ (2 * n))) (sym so.ex)

  pub sums_is : tab m (λ k. sum N (alpha_at q m hid given work k) % q) ≡ tab m (αsum K v)
  unfolding αsum
  sums_is =
      tab_ext m _ _
      (λ k kh.
      ap (λ x. x % q) (sum_ext N (λ i ih. alpha_is k i kh ih))
      ∙ ap₂ (λ n p. sum n (α K v k) % p) (sym so.sized.parties) (sym so.sized.modulus))

-- ---- Ψ and the sum of the outputs
pub psi_is : (K : Key) (v : View) (κ L : List ℕ) {e : ℕ} {outs : List ℕ} → v.ex ≡ e → outs ≡ tab K.N (o K v L)
    → input 8 (e + 1) 0 (words outs ++ block κ (2 * e + 1)) ≡ Ψin K v κ L
unfolding Ψin
psi_is K v κ L {e} {outs} ex is =
    ap (λ x. input 8 (e + 1) 0 (x ++ block κ (2 * e + 1))) (ap words is ∙ words-tab K.N (o K v L))
    ∙ ap₂ (λ a n. input 8 a 0 (nums K.N (o K v L) ++ block κ (2 * n + 1))) (next ex) (sym ex)

pub outputs-sum : (K : Key) (v : View) (L : List ℕ) {outs : List ℕ} → outs ≡ tab K.N (o K v L)
    → sum (length outs) (λ i. get_or outs i 0) ≡ sum K.N (o K v L)
outputs-sum K v L {outs} is = sum-tab K.N outs (o K v L) is

-- ---- an execution that is opened by master seed holds what h(e) takes
pub opened_for_h : {q m N D e : ℕ} {master leaves work : List ℕ} (given : List ℕ) → Opened q m N D master leaves work
    → (K : Key) (z : ℕ → ℕ) → Sized q m N K → depth K ≡ D → ForH m N N e given leaves work K (dealt K e master z)
unfolding dealt
opened_for_h {q} {m} {N} {D} {e} {master} {leaves} {work} given so K z sized deep =
    record {
      columns = sized.columns;
      parties = sized.parties;
      ex = refl;
      hidden = sized.parties;
      Γh = λ h. absurd (omega arith);
      seeds = so.seeds K e z sized deep;
      d_n = λ _ k h. so.d_n K e z sized deep k (omega (arith, sized.columns))
          ∙ ap₂ (λ (x y : ℕ). get_or work (place_of x (y - 1) (x + k)) 0) sized.columns sized.parties;
    }
