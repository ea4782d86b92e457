-- Laws of what joined/specs/Joined.antt defines. Assumes nothing.
use Prim.Native.Nat.{ℕ, zero, suc, ◌+◌, ◌*◌, ◌%◌, ◌<◌, ◌≤◌}
use Rattle.std.specs.Prelude.{◌≡◌, refl, false, eqb}
use Rattle.std.proofs.Common.{sym, ◌∙◌, ⊎_elim, zero-add, not-suc-le-zero, le_of_suc-le-suc, eq-or-lt_of_le, arith, eq-eqb, ne_eqb}
use Rattle.std.proofs.Math.Path.{ap, ap₂}
use mathlib.Core.List.{List}
use Rattle.std.proofs.Math.Decide.{ℕ_discrete}
use Rattle.std.proofs.Math.ListN.{length, get_or}
use Rattle.lists.specs.Tab.{tab, tab-at, tab-length}
use Rattle.lists.specs.Index.{pick}
use Rattle.lists.specs.TestLaws.{pick_true, pick_false}
use Rattle.numbers.proofs.Mod.{cong_add, cong_mod, cong_refl}
use Rattle.numbers.specs.Sum.{sum}
use Rattle.numbers.proofs.Sum.{sum_suc, sum_ext}
use Rattle.protocol.specs.Key.{Key}
use Rattle.protocol.specs.Shares.{View, b, d, s}
use Rattle.protocol.specs.Prover.{opened}
use Rattle.protocol.specs.Transcript.{Parts}
use Rattle.protocol.specs.Judge.{hidden, view, kept_view}
use Rattle.protocol.specs.Pair.{source, joined}
use Rattle.execution.specs.Shown.{Holds, Shown}
use Rattle.joined.specs.Joined.{open_at, open_sum, with_party, Joined}

-- a sum without one of its terms, and that term
pub sum-without : (n h : ℕ) (g : ℕ → ℕ) → h < n → sum n (λ i. pick (eqb i h) 0 (g i)) + g h ≡ sum n g
sum-without zero h g l = absurd (not-suc-le-zero l)
sum-without (suc n) h g l =
    ⊎_elim
    (λ z. last z)
    (λ k. let ih : sum n (λ i. pick (eqb i h) 0 (g i)) + g h ≡ sum n g = sum-without n h g k in
    let x : pick (eqb n h) 0 (g n) ≡ g n = pick_false (eqb n h) 0 (g n) (ne_eqb n h (λ y. let w : ⊥ = omega arith in w)) in
    omega (arith, sum_suc n (λ i. pick (eqb i h) 0 (g i)), sum_suc n g))
    (eq-or-lt_of_le (le_of_suc-le-suc l))
  where
    last : h ≡ n → sum (suc n) (λ i. pick (eqb i h) 0 (g i)) + g h ≡ sum (suc n) g
    last z =
        let same : sum n (λ i. pick (eqb i h) 0 (g i)) ≡ sum n g =
        sum_ext n (λ i k. pick_false (eqb i h) 0 (g i) (ne_eqb i h (λ y. let w : ⊥ = omega arith in w))) in
        let none : pick (eqb n h) 0 (g n) ≡ 0 = pick_true (eqb n h) 0 (g n) (eq-eqb n h (sym z)) in
        omega (arith, sum_suc n (λ i. pick (eqb i h) 0 (g i)), sum_suc n g, ap g z)

module _ (K : Key) (P R : Parts) (e : ℕ) (p-kept : opened P.p2 e ≡ false) (r-kept : opened R.p2 e ≡ false)
    (inside : hidden K P e < K.N) (differ : hidden K P e ≡ hidden K R e → ⊥) where
  -- an open party's values come from the first transcript, the hidden one's from the second
  source_open : (i : ℕ) → (i ≡ hidden K P e → ⊥) → source K P R e i ≡ kept_view K P e
  unfolding source view kept_view
  source_open i h = rw (p-kept) (pick_false (eqb i (hidden K P e)) _ _ (ne_eqb i (hidden K P e) h))

  source_hidden : source K P R e (hidden K P e) ≡ kept_view K R e
  unfolding source view kept_view
  source_hidden = rw (p-kept, r-kept) (pick_true (eqb (hidden K P e) (hidden K P e)) _ _ (eq-eqb (hidden K P e) (hidden K P e) refl))

  module _ (one two x y : List ℕ)
      (first-is : y ≡ tab (3 * K.m) (open_sum K.q K.m K.N (hidden K P e) one))
      (second_is : x ≡ tab (3 * K.m) (with_party K.q K.m (hidden K P e) two y)) where
    -- number from + k, for one of b, d, s
    number_is : (f : Key → View → ℕ → ℕ → ℕ) (from : ℕ) → from + K.m ≤ 3 * K.m
        → Holds K.m K.N (hidden K P e) from one (f K (kept_view K P e)) → Holds K.m K.N (hidden K R e) from two (f K (kept_view K R e))
        → (k : ℕ) → k < K.m → get_or x (from + k) 0 ≡ joined K P R e f k
    unfolding joined open_sum with_party
    number_is f from room hp hr k h =
        ap (λ (l : List ℕ). get_or l (from + k) 0) second_is
        ∙ tab-at (3 * K.m) (with_party K.q K.m (hidden K P e) two y) (from + k) (omega arith)
        ∙ ap₂ (λ a c. (a + c) % K.q)
        (ap (λ (l : List ℕ). get_or l (from + k) 0) first-is ∙ tab-at (3 * K.m) (open_sum K.q K.m K.N (hidden K P e) one) (from + k) (omega arith))
        (hr.at k (hidden K P e) h inside differ ∙ ap (λ (v : View). f K v k (hidden K P e)) (sym source_hidden))
        ∙ (cong_add (cong_mod K.q (sum K.N (open_at K.m (hidden K P e) one (from + k)))) cong_refl).same
        ∙ ap (λ z. (z + g (hidden K P e)) % K.q) (sum_ext K.N (λ i l. term i l (ℕ_discrete i (hidden K P e))))
        ∙ ap (λ z. z % K.q) (sum-without K.N (hidden K P e) g inside)
      where
        g : ℕ → ℕ
        g i = f K (source K P R e i) k i

        term : (i : ℕ) → i < K.N → Dec (i ≡ hidden K P e) → open_at K.m (hidden K P e) one (from + k) i ≡ pick (eqb i (hidden K P e)) 0 (g i)
        term i l (yes z) = rw (eq-eqb i (hidden K P e) z)
        term i l (no z) = rw (ne_eqb i (hidden K P e) z) (hp.at k i h l z ∙ ap (λ (v : View). f K v k i) (sym (source_open i z)))

    -- the lists of the two transcripts' executions, summed over the parties open in the first, then the other party's added
    pub joined_is : {leaves-one leaves-two : List ℕ} → Shown K (kept_view K P e) leaves-one one → Shown K (kept_view K R e) leaves-two two → Joined K P R e x
    unfolding kept_view
    joined_is p r =
        record {
          long = ap length second_is ∙ tab-length (3 * K.m) (with_party K.q K.m (hidden K P e) two y);
          bs = λ k h. ap (λ z. get_or x z 0) (sym (zero-add k)) ∙ number_is b 0 (omega arith) p.bs r.bs k h;
          ds = λ k h. number_is d K.m (omega arith) p.ds r.ds k h;
          ss = λ k h. number_is s (2 * K.m) (omega arith) p.ss r.ss k h;
        }

-- The same, where the hidden party of the first transcript is known as h.
pub joined_by : (K : Key) (P R : Parts) (e h : ℕ) → h ≡ hidden K P e → opened P.p2 e ≡ false → opened R.p2 e ≡ false → h < K.N
    → (h ≡ hidden K R e → ⊥) → (one two x y : List ℕ) → y ≡ tab (3 * K.m) (open_sum K.q K.m K.N h one)
    → x ≡ tab (3 * K.m) (with_party K.q K.m h two y)
    → {leaves-one leaves-two : List ℕ} → Shown K (kept_view K P e) leaves-one one → Shown K (kept_view K R e) leaves-two two → Joined K P R e x
joined_by K P R e h is p-kept r-kept inside differ one two x y first-is second_is =
    joined_is K P R e p-kept r-kept (rw is at inside) (λ z. differ (is ∙ z)) one two x y (rw is at first-is) (rw is at second_is)
