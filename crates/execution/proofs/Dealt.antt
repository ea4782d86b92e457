-- Lists that hold seeds and what the open parties draw from them hold an execution; those that a prover fills hold the one it deals.
-- Assumes nothing.
use Prim.Native.Nat.{ℕ, suc, ◌+◌, ◌*◌, ◌-◌, ◌^◌, ◌<◌, ◌≤◌}
use mathlib.Core.Path.{◌≡◌, refl, sym, ◌∙◌, ap, ap₂, subst}
use mathlib.Core.Bool.{Bool, true, false}
use mathlib.Core.List.{List, [], append-nil}
use native.Mathlib.Nat.{mul-le-mul_left, zero-add}
use native.Mathlib.Decide.{ℕ_discrete}
use native.Mathlib.Omega.{arith}
use borrow.Author.Tests.{eq-eqb, ne_eqb}
use lib.Arith.{lt_of_le-ne}
use lib.Dec.{eqb}
use lib.ListN.{length, get_or}
use Rattle.lists.specs.Index.{pick, cat, part}
use Rattle.lists.specs.CatLaws.{cat-part, cat-length}
use Rattle.numbers.specs.Mod.{sub}
use Rattle.numbers.proofs.Mod.{sub-lt}
use Rattle.numbers.proofs.Sum.{sum_ext}
use Rattle.streams.specs.Streams.{number, draw, number_lt}
use Rattle.tree.specs.Tree.{leaf}
use Rattle.tree.specs.TreeLaws.{leaf-length}
use Rattle.protocol.specs.Key.{Key, depth}
use Rattle.protocol.specs.Shares.{View, is_n, share, b, d, s, dealt}
use Rattle.execution.specs.Shown.{Sized, Seeded, Shown, place_of}
use Rattle.execution.specs.Lists.{Put, count_of, Drawn, last_d, last_s, Reduced}
use Rattle.execution.specs.Prepared.{Dealt, Opened}
use Rattle.execution.proofs.Laws.{inside}

-- what holds of three numbers holds of a key's own
pub with_key : {q m N : ℕ} {K : Key} → Sized q m N K → (P : ℕ → ℕ → ℕ → Type 0) → P q m N → P K.q K.m K.N
with_key {q} {m} {N} {K} s P h =
    subst (λ (x : ℕ). P x K.m K.N) (sym s.modulus)
    (subst (λ (x : ℕ). P q x K.N) (sym s.columns) (subst (λ (x : ℕ). P q m x) (sym s.parties) h))

-- a share is a number of its seed, by document 01's rule
pub share_number : (K : Key) (seed : List ℕ) (i j : ℕ) → share K seed i j ≡ number K.q seed 2 j
unfolding share draw
share_number K seed i j = refl

-- every party but N draws `per` numbers
pub count_other : (m N per i : ℕ) → i < N - 1 → count_of m N per i ≡ per
count_other m N per i h = rw (ne_eqb (suc i) N (λ e. omega arith))

-- a party that isn't N comes before it
pub before_last : {N i : ℕ} → i < N → (suc i ≡ N → ⊥) → i < N - 1
before_last {N} {i} h ne = let e : suc i < N = lt_of_le-ne h ne in omega arith

-- what is drawn stands before party N's d
drawn_low : (m N per i j : ℕ) → per ≤ 3 * m → i < N → j < count_of m N per i → place_of m i j < 3 * m * (N - 1) + m
drawn_low m N per i j high h k = go (ℕ_discrete (suc i) N)
  where
    go : Dec (suc i ≡ N) → place_of m i j < 3 * m * (N - 1) + m
    go (yes e) =
        let few : j < m = rw (eq-eqb (suc i) N e) at k in
        let last : i ≤ N - 1 = omega arith in
        omega (arith, mul-le-mul_left (3 * m) last)
    go (no ne) =
        let few : j < per = rw (ne_eqb (suc i) N ne) at k in
        omega (arith, inside m (N - 1) i (before_last h ne))

-- and stays when numbers are put from there on
pub drawn_put : {q m N hid per a c : ℕ} {f : ℕ → ℕ} {leaves work after : List ℕ} → per ≤ 3 * m → 3 * m * (N - 1) + m ≤ a → Put a c f work after
    → Drawn q m N hid per leaves work N → Drawn q m N hid per leaves after N
drawn_put {q} {m} {N} {hid} {per} {a} high from put so =
    record {
      at = λ i j h other k.
          let low : place_of m i j < 3 * m * (N - 1) + m = drawn_low m N per i j high h k in
          put.below (place_of m i j) (omega arith) ∙ so.at i j h other k;
    }

-- every number is below q if party N's d and s are
pub reduced_by : {q m N hid : ℕ} {leaves work : List ℕ} → 0 < q → Drawn q m N hid (3 * m) leaves work N
    → ((suc hid ≡ N → ⊥) → (j : ℕ) → m ≤ j → j < 3 * m → get_or work (place_of m (N - 1) j) 0 < q) → Reduced q m N hid work
reduced_by {q} {m} {N} {hid} {leaves} {work} pos drawn last = record { at = λ i j h other k. go i j h other k (ℕ_discrete (suc i) N) (ℕ_discrete (m - j) 0) }
  where
    drawn_lt : (i j : ℕ) → i < N → (i ≡ hid → ⊥) → j < count_of m N (3 * m) i → get_or work (place_of m i j) 0 < q
    drawn_lt i j h other k = subst (λ (x : ℕ). x < q) (sym (drawn.at i j h other k)) (number_lt pos _ 2 j)

    go : (i j : ℕ) → i < N → (i ≡ hid → ⊥) → j < 3 * m → Dec (suc i ≡ N) → Dec (m - j ≡ 0) → get_or work (place_of m i j) 0 < q
    go i j h other k (no ne) t = drawn_lt i j h other (rw (ne_eqb (suc i) N ne) k)
    go i j h other k (yes e) (no ne) = drawn_lt i j h other (rw (eq-eqb (suc i) N e) (omega arith))
    go i j h other k (yes e) (yes z) =
        let at : i ≡ N - 1 = omega arith in
        rw at (last (λ y. other (omega arith)) j (omega arith) k)

-- a seed among seeds
pub seed_at : (n : ℕ) (f : ℕ → List ℕ) → ((i : ℕ) → i < n → length (f i) ≡ 16) → (i : ℕ) → i < n → part (cat n f) (16 * i) 16 ≡ f i
seed_at n f wide i h =
    let e : length (cat i f) ≡ i * 16 = cat-length i 16 f (λ j k. wide j (omega arith)) in
    ap (λ x. part x (16 * i) 16) (sym (append-nil (cat n f))) ∙ cat-part n f [] i (16 * i) 16 h (omega arith) (wide i h)

-- ---- an execution whose seeds stand in one list and whose open parties have drawn `per` numbers into the other
module _ (K : Key) (v : View) (leaves work : List ℕ) (per : ℕ) (low : K.m ≤ per) (seeds : Seeded K v leaves)
    (drawn : Drawn K.q K.m K.N v.hid per leaves work K.N) where
  number_at : (i j : ℕ) → i < K.N → (i ≡ v.hid → ⊥) → j < count_of K.m K.N per i → get_or work (place_of K.m i j) 0 ≡ share K (v.seed i) i j
  number_at i j h other k =
      drawn.at i j h other k ∙ (ap (λ x. number K.q x 2 j) (seeds.at i h other) ∙ sym (share_number K (v.seed i) i j))

  pub drawn_b : (j i : ℕ) → j < K.m → i < K.N → (i ≡ v.hid → ⊥) → get_or work (place_of K.m i j) 0 ≡ share K (v.seed i) i j
  drawn_b j i k h other = number_at i j h other (few (eqb (suc i) K.N))
    where
      few : (t : Bool) → j < pick t K.m per
      few true = k
      few false = omega arith

  pub drawn_other : (j i : ℕ) → j < per → i < K.N - 1 → (i ≡ v.hid → ⊥) → get_or work (place_of K.m i j) 0 ≡ share K (v.seed i) i j
  drawn_other j i k h other = number_at i j (omega arith) other (rw (count_other K.m K.N per i h) k)

  -- number j of any open party, party N's being x
  drawn_or : (j i x : ℕ) → j < per → i < K.N → (i ≡ v.hid → ⊥) → (suc i ≡ K.N → get_or work (place_of K.m i j) 0 ≡ x)
      → get_or work (place_of K.m i j) 0 ≡ pick (is_n K i) x (share K (v.seed i) i j)
  drawn_or j i x k h other last = go (ℕ_discrete (suc i) K.N)
    where
      go : Dec (suc i ≡ K.N) → get_or work (place_of K.m i j) 0 ≡ pick (is_n K i) x (share K (v.seed i) i j)
      go (yes e) = rw (eq-eqb (suc i) K.N e) (last e)
      go (no ne) = rw (ne_eqb (suc i) K.N ne) (drawn_other j i k (before_last h ne) other)

-- with party N's d and s in their places the execution stands in the lists
pub shown_by : (K : Key) (v : View) (leaves work : List ℕ) → Seeded K v leaves
    → Drawn K.q K.m K.N v.hid (3 * K.m) leaves work K.N
    → ((suc v.hid ≡ K.N → ⊥) → (k : ℕ) → k < K.m → get_or work (place_of K.m (K.N - 1) (K.m + k)) 0 ≡ v.d_n k)
    → ((suc v.hid ≡ K.N → ⊥) → (k : ℕ) → k < K.m → get_or work (place_of K.m (K.N - 1) (2 * K.m + k)) 0 ≡ v.s_n k)
    → Shown K v leaves work
unfolding b d s
shown_by K v leaves work seeds drawn ds ss =
    record {
      seeds = seeds;
      bs = record {
        at = λ j i k h other.
            ap (λ x. get_or work (place_of K.m i x) 0) (zero-add j) ∙ drawn_b K v leaves work (3 * K.m) (omega arith) seeds drawn j i k h other;
      };
      ds = record {
        at = λ j i k h other.
            drawn_or K v leaves work (3 * K.m) (omega arith) seeds drawn (K.m + j) i (v.d_n j) (omega arith) h other
            (λ e. at_last (K.m + j) i e ∙ ds (open_last i e other) j k);
      };
      ss = record {
        at = λ j i k h other.
            drawn_or K v leaves work (3 * K.m) (omega arith) seeds drawn (2 * K.m + j) i (v.s_n j) (omega arith) h other
            (λ e. at_last (2 * K.m + j) i e ∙ ss (open_last i e other) j k);
      };
    }
  where
    at_last : (j i : ℕ) → suc i ≡ K.N → get_or work (place_of K.m i j) 0 ≡ get_or work (place_of K.m (K.N - 1) j) 0
    at_last j i e = let z : i ≡ K.N - 1 = omega arith in ap (λ x. get_or work (place_of K.m x j) 0) z

    open_last : (i : ℕ) → suc i ≡ K.N → (i ≡ v.hid → ⊥) → suc v.hid ≡ K.N → ⊥
    open_last i e other z = other (omega arith)

-- ---- what a prover deals
module _ (K : Key) (e : ℕ) (master : List ℕ) (z : ℕ → ℕ) (leaves : List ℕ) (long : length master ≡ 16) (full : 2 ^ depth K ≡ K.N)
    (made : leaves ≡ cat (2 ^ depth K) (leaf (depth K) master)) where
  pub dealt_seeds : Seeded K (dealt K e master z) leaves
  unfolding dealt
  dealt_seeds =
      record {
        at = λ i h other.
            ap (λ x. part x (16 * i) 16) made
            ∙ seed_at (2 ^ depth K) (leaf (depth K) master) (λ j k. leaf-length (depth K) master j long) i (subst (λ (x : ℕ). i < x) (sym full) h);
      }

  dealt_d : (work : List ℕ) (per k : ℕ) → 2 * K.m ≤ per → k < K.m → Drawn K.q K.m K.N K.N per leaves work K.N
      → last_d K.q K.m K.N work k ≡ (dealt K e master z).d_n k
  unfolding dealt last_d
  dealt_d work per k wide h drawn =
      ap₂ (λ x y. sub K.q (x * x) y)
      (sum_ext K.N (λ i y. drawn_b K (dealt K e master z) leaves work per (omega arith) dealt_seeds drawn k i h y (λ w. omega arith)))
      (sum_ext (K.N - 1) (λ i y. drawn_other K (dealt K e master z) leaves work per (omega arith) dealt_seeds drawn (K.m + k) i (omega arith) y (λ w. omega arith)))

  dealt_s : (work : List ℕ) (k : ℕ) → k < K.m → Drawn K.q K.m K.N K.N (3 * K.m) leaves work K.N
      → last_s K.q K.m K.N work (z k) k ≡ (dealt K e master z).s_n k
  unfolding dealt last_s
  dealt_s work k h drawn =
      ap (λ y. sub K.q (z k) y)
      (sum_ext (K.N - 1) (λ i y. drawn_other K (dealt K e master z) leaves work (3 * K.m) (omega arith) dealt_seeds drawn (2 * K.m + k) i (omega arith) y (λ w. omega arith)))

  dealt-shown : (one two three : List ℕ)
      → Drawn K.q K.m K.N K.N (3 * K.m) leaves one K.N
      → Put (3 * K.m * (K.N - 1) + K.m) K.m (last_d K.q K.m K.N one) one two
      → Put (3 * K.m * (K.N - 1) + 2 * K.m) K.m (λ k. last_s K.q K.m K.N two (z k) k) two three
      → Shown K (dealt K e master z) leaves three
  unfolding dealt
  dealt-shown one two three drawn ds ss =
      shown_by K (dealt K e master z) leaves three dealt_seeds (drawn_put (omega arith) (omega arith) ss after)
      (λ _ k h.
      let at : 3 * K.m * (K.N - 1) + (K.m + k) ≡ 3 * K.m * (K.N - 1) + K.m + k = omega arith in
      ss.below (place_of K.m (K.N - 1) (K.m + k)) (omega arith)
      ∙ (ap (λ x. get_or two x 0) at ∙ (ds.at k h ∙ dealt_d one (3 * K.m) k (omega arith) h drawn)))
      (λ _ k h.
      let at : 3 * K.m * (K.N - 1) + (2 * K.m + k) ≡ 3 * K.m * (K.N - 1) + 2 * K.m + k = omega arith in
      ap (λ x. get_or three x 0) at ∙ (ss.at k h ∙ dealt_s two k h after))
    where
      after : Drawn K.q K.m K.N K.N (3 * K.m) leaves two K.N
      after = drawn_put (omega arith) (omega arith) ds drawn

-- a tree's leaves, written with the depth of a key
deep_leaves : {D : ℕ} (K : Key) (master : List ℕ) {leaves : List ℕ} → depth K ≡ D → leaves ≡ cat (2 ^ D) (leaf D master) → leaves ≡ cat (2 ^ depth K) (leaf (depth K) master)
deep_leaves {D} K master {leaves} deep made = subst (λ (x : ℕ). leaves ≡ cat (2 ^ x) (leaf x master)) (sym deep) made

deep_full : {q m N D : ℕ} {K : Key} → Sized q m N K → depth K ≡ D → 2 ^ D ≡ N → 2 ^ depth K ≡ K.N
deep_full sized deep full = ap (λ x. 2 ^ x) deep ∙ (full ∙ sym sized.parties)

module _ {q m N D : ℕ} {master leaves : List ℕ} (long : length master ≡ 16) (full : 2 ^ D ≡ N) (made : leaves ≡ cat (2 ^ D) (leaf D master)) where
  pub all_dealt : {secret one two three : List ℕ} → Drawn q m N N (3 * m) leaves one N
      → Put (3 * m * (N - 1) + m) m (last_d q m N one) one two
      → Put (3 * m * (N - 1) + 2 * m) m (λ k. last_s q m N two (get_or secret k 0) k) two three
      → Dealt q m N D master secret leaves three
  all_dealt {secret} {one} {two} {three} drawn ds ss =
      record {
        shown = λ K e sized deep.
            dealt-shown K e master (λ k. get_or secret k 0) leaves long (deep_full sized deep full) (deep_leaves K master deep made) one two three
            (with_key sized (λ q m N. Drawn q m N N (3 * m) leaves one N) drawn)
            (with_key sized (λ q m N. Put (3 * m * (N - 1) + m) m (last_d q m N one) one two) ds)
            (with_key sized (λ q m N. Put (3 * m * (N - 1) + 2 * m) m (λ k. last_s q m N two (get_or secret k 0) k) two three) ss);
      }

  pub opened-dealt : {one two : List ℕ} → Drawn q m N N (2 * m) leaves one N → Put (3 * m * (N - 1) + m) m (last_d q m N one) one two
      → Opened q m N D master leaves two
  opened-dealt {one} {two} drawn ds =
      record {
        seeds = λ K e z sized deep. dealt_seeds K e master z leaves long (deep_full sized deep full) (deep_leaves K master deep made);
        d_n = λ K e z sized deep k h.
            let put : Put (3 * K.m * (K.N - 1) + K.m) K.m (last_d K.q K.m K.N one) one two =
            with_key sized (λ q m N. Put (3 * m * (N - 1) + m) m (last_d q m N one) one two) ds in
            let at : 3 * K.m * (K.N - 1) + (K.m + k) ≡ 3 * K.m * (K.N - 1) + K.m + k = omega arith in
            sym
            (ap (λ x. get_or two x 0) at
            ∙ (put.at k h
            ∙ dealt_d K e master z leaves long (deep_full sized deep full) (deep_leaves K master deep made) one (2 * K.m) k (omega arith) h
            (with_key sized (λ q m N. Drawn q m N N (2 * m) leaves one N) drawn)));
      }

-- and all its numbers are below q
pub dealt_reduced : {q m N : ℕ} (secret : List ℕ) {leaves one two three : List ℕ} → 0 < q → Drawn q m N N (3 * m) leaves one N
    → Put (3 * m * (N - 1) + m) m (last_d q m N one) one two
    → Put (3 * m * (N - 1) + 2 * m) m (λ k. last_s q m N two (get_or secret k 0) k) two three
    → Reduced q m N N three
unfolding last_d last_s
dealt_reduced {q} {m} {N} secret {leaves} {one} {two} {three} pos drawn ds ss =
    reduced_by pos (drawn_put (omega arith) (omega arith) ss (drawn_put (omega arith) (omega arith) ds drawn)) (λ _ j low high. go j low high (ℕ_discrete (2 * m - j) 0))
  where
    go : (j : ℕ) → m ≤ j → j < 3 * m → Dec (2 * m - j ≡ 0) → get_or three (place_of m (N - 1) j) 0 < q
    go j low high (no ne) =
        let at : 3 * m * (N - 1) + j ≡ 3 * m * (N - 1) + m + (j - m) = omega arith in
        let e : get_or three (place_of m (N - 1) j) 0 ≡ last_d q m N one (j - m) =
        ss.below (place_of m (N - 1) j) (omega arith) ∙ (ap (λ x. get_or two x 0) at ∙ ds.at (j - m) (omega arith)) in
        subst (λ (x : ℕ). x < q) (sym e) (sub-lt pos _ _)
    go j low high (yes z) =
        let at : 3 * m * (N - 1) + j ≡ 3 * m * (N - 1) + 2 * m + (j - 2 * m) = omega arith in
        let e : get_or three (place_of m (N - 1) j) 0 ≡ last_s q m N two (get_or secret (j - 2 * m) 0) (j - 2 * m) =
        ap (λ x. get_or three x 0) at ∙ ss.at (j - 2 * m) (omega arith) in
        subst (λ (x : ℕ). x < q) (sym e) (sub-lt pos _ _)
