-- Laws for the b and s of an execution that is dealt.
-- Assumes nothing.
use Prim.Native.Nat.{ℕ, suc, ◌+◌, ◌*◌, ◌-◌, ◌/◌, ◌%◌, ◌^◌, ◌<◌, ◌≤◌}
use mathlib.Core.Path.{◌≡◌, sym, ◌∙◌, ap, subst}
use mathlib.Core.List.{List, [], ◌++◌}
use native.Mathlib.Nat.{zero-add}
use native.Mathlib.Decide.{ℕ_discrete}
use native.Mathlib.Omega.{arith}
use borrow.Author.Tests.{eq-eqb, ne_eqb}
use lib.Arith.{lt_of_le-ne}
use Rattle.std.proofs.lemmas.List.{length-replicate, get_or-replicate}
use lib.ListN.{length, get_or, take, drop, length-drop, replicate}
use lib.Seq.{length-take-le}
use Rattle.std.specs.Simd.{first_chunks}
use Rattle.lists.proofs.Chains.{chunk_at}
use Rattle.lists.specs.Index.{pick, cat, part}
use Rattle.numbers.specs.Mod.{sub}
use Rattle.numbers.proofs.Mod.{sub-lt}
use Rattle.numbers.proofs.Sum.{sum_ext}
use Rattle.streams.specs.Streams.{number, word64, block, number_lt}
use Rattle.tree.specs.Tree.{leaf}
use Rattle.protocol.specs.Key.{Key, depth}
use Rattle.protocol.specs.Shares.{is_n, share, b, s, dealt}
use Rattle.execution.specs.Shown.{place_of}
use Rattle.execution.specs.Lists.{Put, last_s, Reduced}
use Rattle.execution.proofs.Laws.{inside, put-part}
use Rattle.execution.proofs.Dealt.{with_key, share_number, before_last, dealt_seeds}
use Rattle.masks.specs.Masks.{Row, Masks, Carried, Masked}

-- number j from m blocks later on is number 2m + j
pub number_later : (q : ℕ) (seed : List ℕ) (c m j : ℕ) → number q seed (c + m) j ≡ number q seed c (2 * m + j)
unfolding number
number_later q seed c m j =
    let half : c + m + j / 2 ≡ c + (2 * m + j) / 2 = omega arith in
    let rest : j % 2 ≡ (2 * m + j) % 2 = omega arith in
    ap (λ x. word64 (block seed x) (8 * (j % 2)) % q) half ∙ ap (λ x. word64 (block seed (c + (2 * m + j) / 2)) (8 * x) % q) rest

-- ---- one party
-- a part that came back as zeros
pub put_zeros : (xs ys : List ℕ) (a c n : ℕ) → a + c ≤ length xs → n ≡ a + c - a → ys ≡ replicate (length (take n (drop a xs))) 0
    → Put a c (λ _. 0) xs (take a xs ++ (ys ++ drop n (drop a xs)))
put_zeros xs ys a c n h long e =
    let z : n ≡ c = omega arith in
    let all : length (take n (drop a xs)) ≡ c = rw z (length-take-le c (drop a xs) (simp length-drop (omega arith))) in
    let zs : ys ≡ replicate c 0 = rw all at e in
    rw z (put-part xs ys a c (λ _. 0) h (rw zs (length-replicate c 0)) (λ j k. rw zs (get_or-replicate c j 0 0 k)))

module _ {q m N i : ℕ} {seed before one two : List ℕ} (bs : Put (3 * m * i) m (number q seed 2) before one) (zs : Put (3 * m * i + m) m (λ _. 0) one two) where
  pub row_last : i + 1 ≡ N → Row q m N i seed before two
  row_last e =
      record {
        long = zs.long ∙ bs.long;
        bs = λ j h. zs.below (place_of m i j) (omega arith) ∙ bs.at j h;
        zs = λ j h. let at : place_of m i (m + j) ≡ 3 * m * i + m + j = omega arith in ap (λ x. get_or two x 0) at ∙ zs.at j h;
        ss = λ j ne h. absurd (ne (omega arith));
        below = λ x h. zs.below x (omega arith) ∙ bs.below x h;
      }

  pub row_other : {three : List ℕ} → Put (3 * m * i + 2 * m) m (number q seed (2 + m)) two three → Row q m N i seed before three
  row_other {three} ss =
      record {
        long = ss.long ∙ (zs.long ∙ bs.long);
        bs = λ j h. ss.below (place_of m i j) (omega arith) ∙ (zs.below (place_of m i j) (omega arith) ∙ bs.at j h);
        zs = λ j h.
            let at : place_of m i (m + j) ≡ 3 * m * i + m + j = omega arith in
            ss.below (place_of m i (m + j)) (omega arith) ∙ (ap (λ x. get_or two x 0) at ∙ zs.at j h);
        ss = λ j ne h.
            let at : place_of m i (2 * m + j) ≡ 3 * m * i + 2 * m + j = omega arith in
            ap (λ x. get_or three x 0) at ∙ (ss.at j h ∙ number_later q seed 2 m j);
        below = λ x h. ss.below x (omega arith) ∙ (zs.below x (omega arith) ∙ bs.below x h);
      }

-- what holds of the parties below n and of party n holds of those below n + 1
one_more : (P : ℕ → Type 0) (n : ℕ) → ((i : ℕ) → i < n → P i) → P n → (i : ℕ) → i < n + 1 → P i
one_more P n low here i h = go (ℕ_discrete i n)
  where
    go : Dec (i ≡ n) → P i
    go (yes e) = subst P (sym e) here
    go (no ne) = low i (lt_of_le-ne (omega arith) ne)

pub masks_next : {q m N n k : ℕ} {leaves seed work after : List ℕ} → n < k → seed ≡ get_or (first_chunks 16 k leaves) n [] → Row q m N n seed work after
    → Masks q m N leaves work n → Masks q m N leaves after (n + 1)
masks_next {q} {m} {N} {n} {k} {leaves} {seed} {work} {after} h chunk row so =
    let is : seed ≡ part leaves (16 * n) 16 = chunk ∙ chunk_at 16 k n leaves h in
    record {
      bs = λ i j h k.
          one_more (λ i. get_or after (place_of m i j) 0 ≡ number q (part leaves (16 * i) 16) 2 j) n
          (λ i y. row.below (place_of m i j) (omega (arith, inside m n i y)) ∙ so.bs i j y k)
          (row.bs j k ∙ ap (λ z. number q z 2 j) is) i h;
      zs = λ i j h k.
          one_more (λ i. get_or after (place_of m i (m + j)) 0 ≡ 0) n
          (λ i y. row.below (place_of m i (m + j)) (omega (arith, inside m n i y)) ∙ so.zs i j y k)
          (row.zs j k) i h;
      ss = λ i j h ne k.
          one_more (λ i. (suc i ≡ N → ⊥) → get_or after (place_of m i (2 * m + j)) 0 ≡ number q (part leaves (16 * i) 16) 2 (2 * m + j)) n
          (λ i y ne. row.below (place_of m i (2 * m + j)) (omega (arith, inside m n i y)) ∙ so.ss i j y ne k)
          (λ ne. row.ss j ne k ∙ ap (λ z. number q z 2 (2 * m + j)) is) i h ne;
    }

-- what party N's s leaves of the parties' numbers
module _ {q m N : ℕ} {f : ℕ → ℕ} {leaves one two : List ℕ} (masks : Masks q m N leaves one N) (put : Put (3 * m * (N - 1) + 2 * m) m f one two) where
  -- a place before party N's s
  early : (i j : ℕ) → i < N → j < 3 * m → (suc i ≡ N → j < 2 * m) → place_of m i j < 3 * m * (N - 1) + 2 * m
  early i j h k few = go (ℕ_discrete (suc i) N)
    where
      go : Dec (suc i ≡ N) → place_of m i j < 3 * m * (N - 1) + 2 * m
      go (yes e) =
          let last : i ≡ N - 1 = omega arith in
          let low : j < 2 * m = few e in
          rw last (omega arith)
      go (no ne) = omega (arith, inside m (N - 1) i (before_last h ne))

  pub b_after : (i j : ℕ) → i < N → j < m → get_or two (place_of m i j) 0 ≡ number q (part leaves (16 * i) 16) 2 j
  b_after i j h k = put.below (place_of m i j) (early i j h (omega arith) (λ e. omega arith)) ∙ masks.bs i j h k

  pub z_after : (i j : ℕ) → i < N → j < m → get_or two (place_of m i (m + j)) 0 ≡ 0
  z_after i j h k = put.below (place_of m i (m + j)) (early i (m + j) h (omega arith) (λ e. omega arith)) ∙ masks.zs i j h k

  pub s_after : (i j : ℕ) → i < N → (suc i ≡ N → ⊥) → j < m → get_or two (place_of m i (2 * m + j)) 0 ≡ number q (part leaves (16 * i) 16) 2 (2 * m + j)
  s_after i j h ne k = put.below (place_of m i (2 * m + j)) (early i (2 * m + j) h (omega arith) (λ e. absurd (ne e))) ∙ masks.ss i j h ne k

  pub last_after : (i j : ℕ) → i < N → suc i ≡ N → j < m → get_or two (place_of m i (2 * m + j)) 0 ≡ f j
  last_after i j h e k =
      let last : i ≡ N - 1 = omega arith in
      let at : 3 * m * (N - 1) + (2 * m + j) ≡ 3 * m * (N - 1) + 2 * m + j = omega arith in
      ap (λ x. get_or two (place_of m x (2 * m + j)) 0) last ∙ (ap (λ x. get_or two x 0) at ∙ put.at j k)

  -- every number is below q
  pub masks_reduced : 0 < q → ((k : ℕ) → f k < q) → Reduced q m N N two
  masks_reduced pos low = record { at = λ i j h other k. go i j h k (ℕ_discrete (m - j) 0) (ℕ_discrete (2 * m - j) 0) (ℕ_discrete (suc i) N) }
    where
      by : {x y : ℕ} → x ≡ y → y < q → x < q
      by e h = subst (λ (z : ℕ). z < q) (sym e) h

      go : (i j : ℕ) → i < N → j < 3 * m → Dec (m - j ≡ 0) → Dec (2 * m - j ≡ 0) → Dec (suc i ≡ N) → get_or two (place_of m i j) 0 < q
      go i j h k (no ne) t w = by (b_after i j h (omega arith)) (number_lt pos _ 2 j)
      go i j h k (yes e) (no ne) w =
          let at : j ≡ m + (j - m) = omega arith in
          by (ap (λ x. get_or two (place_of m i x) 0) at ∙ z_after i (j - m) h (omega arith)) pos
      go i j h k (yes e) (yes z) (yes last) =
          let at : j ≡ 2 * m + (j - 2 * m) = omega arith in
          by (ap (λ x. get_or two (place_of m i x) 0) at ∙ last_after i (j - 2 * m) h last (omega arith)) (low _)
      go i j h k (yes e) (yes z) (no ne) =
          let at : j ≡ 2 * m + (j - 2 * m) = omega arith in
          by (ap (λ x. get_or two (place_of m i x) 0) at ∙ s_after i (j - 2 * m) h ne (omega arith)) (number_lt pos _ 2 _)

pub dealt_masks_reduced : {q m N : ℕ} (secret : List ℕ) {leaves one two : List ℕ} → 0 < q → Masks q m N leaves one N
    → Put (3 * m * (N - 1) + 2 * m) m (λ k. last_s q m N one (get_or secret k 0) k) one two → Reduced q m N N two
unfolding last_s
dealt_masks_reduced secret pos masks put = masks_reduced masks put pos (λ k. sub-lt pos _ _)

-- ---- what a prover deals
module _ (K : Key) (e : ℕ) (master : List ℕ) (z : ℕ → ℕ) (leaves : List ℕ) (long : length master ≡ 16) (full : 2 ^ depth K ≡ K.N)
    (made : leaves ≡ cat (2 ^ depth K) (leaf (depth K) master)) where
  -- a number of a seed in the list is a share
  share_at : (i j : ℕ) → i < K.N → number K.q (part leaves (16 * i) 16) 2 j ≡ share K ((dealt K e master z).seed i) i j
  unfolding dealt
  share_at i j h =
      ap (λ x. number K.q x 2 j) ((dealt_seeds K e master z leaves long full made).at i h (λ w. let no : ⊥ = omega arith in no)) ∙ sym (share_number K ((dealt K e master z).seed i) i j)

  dealt_s : (work : List ℕ) (k : ℕ) → k < K.m → Masks K.q K.m K.N leaves work K.N
      → last_s K.q K.m K.N work (z k) k ≡ (dealt K e master z).s_n k
  unfolding dealt last_s
  dealt_s work k h masks =
      ap (λ y. sub K.q (z k) y)
      (sum_ext (K.N - 1) (λ i y. masks.ss i k (omega arith) (λ w. let no : ⊥ = omega arith in no) h ∙ share_at i (2 * K.m + k) (omega arith)))

  dealt_carried : (one two : List ℕ) → Masks K.q K.m K.N leaves one K.N
      → Put (3 * K.m * (K.N - 1) + 2 * K.m) K.m (λ k. last_s K.q K.m K.N one (z k) k) one two
      → Carried K (dealt K e master z) leaves two
  unfolding b s
  dealt_carried one two masks put =
      record {
        seeds = dealt_seeds K e master z leaves long full made;
        bs = record {
          at = λ j i k h other.
              ap (λ x. get_or two (place_of K.m i x) 0) (zero-add j) ∙ (b_after masks put i j h k ∙ share_at i j h);
        };
        ss = record { at = λ j i k h other. go j i k h (ℕ_discrete (suc i) K.N) };
      }
    where
      go : (j i : ℕ) → j < K.m → i < K.N → Dec (suc i ≡ K.N)
          → get_or two (place_of K.m i (2 * K.m + j)) 0 ≡ pick (is_n K i) ((dealt K e master z).s_n j) (share K ((dealt K e master z).seed i) i (2 * K.m + j))
      go j i k h (yes w) = rw (eq-eqb (suc i) K.N w) (last_after masks put i j h w k ∙ dealt_s one j k masks)
      go j i k h (no ne) = rw (ne_eqb (suc i) K.N ne) (s_after masks put i j h ne k ∙ share_at i (2 * K.m + j) h)

pub all_masked : {q m N D : ℕ} {master leaves secret one two : List ℕ} → length master ≡ 16 → 2 ^ D ≡ N → leaves ≡ cat (2 ^ D) (leaf D master)
    → Masks q m N leaves one N
    → Put (3 * m * (N - 1) + 2 * m) m (λ k. last_s q m N one (get_or secret k 0) k) one two
    → Masked q m N D master secret leaves two
all_masked {q} {m} {N} {D} {master} {leaves} {secret} {one} {two} long full made masks put =
    record {
      carried = λ K e sized deep.
          dealt_carried K e master (λ k. get_or secret k 0) leaves long (ap (λ x. 2 ^ x) deep ∙ (full ∙ sym sized.parties))
          (subst (λ (x : ℕ). leaves ≡ cat (2 ^ x) (leaf x master)) (sym deep) made) one two
          (with_key sized (λ q m N. Masks q m N leaves one N) masks)
          (with_key sized (λ q m N. Put (3 * m * (N - 1) + 2 * m) m (λ k. last_s q m N one (get_or secret k 0) k) one two) put);
    }
