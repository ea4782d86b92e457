-- Every reading fits: a refusal is of the table, and a finding comes of a key that was read and of two transcripts that fork.
-- Assumes nothing.
use Prim.Native.Nat.{ℕ, zero, suc, ◌*◌, ◌-◌, ◌≤◌, ◌<◌}
use mathlib.Core.Path.{◌≡◌, refl, sym, subst}
use mathlib.Core.Bool.{Bool, true, false, not}
use mathlib.Core.List.{List, [], ◌∷◌, ◌++◌}
use native.Mathlib.Nat.{mod-lt, mul-le-mul}
use native.Mathlib.Omega.{arith}
use lib.Dec.{ltb}
use lib.ListN.{length, length-append}
use borrow.Author.Tests.{ltb-true, not-false}
use Rattle.lists.specs.Tab.{tab, tab-length}
use Rattle.lists.specs.Index.{pick, cat, same, holds}
use Rattle.lists.specs.Check.{Check, ◌⇒◌, first}
use Rattle.lists.specs.TestLaws.{count-le, same_eq, same_differ, holds-each, Clean}
use Rattle.numbers.specs.Sum.{sum}
use Rattle.numbers.proofs.Inverse.{q_positive, q_most, parties_most}
use Rattle.numbers.specs.Output.{u_of, v_of}
use Rattle.protocol.specs.Key.{Key, A, t, key_of, key_checks}
use Rattle.protocol.specs.Shares.{View, is_n, s, b, d, Γin, hin, Ωin, Πin, Ψin}
use Rattle.protocol.specs.Prover.{opened, solves, binary, hΓin, hπin, hψin}
use Rattle.protocol.specs.Transcript.{Parts, parts_of}
use Rattle.protocol.specs.Judge.{κ, view}
use Rattle.protocol.specs.Pair.{Comparison, compare, Reading, collision, secret, square, errors, first_different, execution, open_in_both, comparisons, source, joined, uv, wrong_square, values, same_front, finding, Lengths, pair_checks, read_of, pair}
use Rattle.protocol.specs.Accepts.{GoodKey, GoodParts}
use Rattle.protocol.specs.Demand3.{Works}
use Rattle.protocol.specs.Fits.{Within, Fits}
use Rattle.protocol.proofs.KeyFacts.{good}
use Rattle.protocol.proofs.Facts.{run_facts}
use Rattle.protocol.proofs.Demand3Lengths.{Sized, hin_length, Γin_length, Ωin_length, Πin_length, Ψin_length, hΓin_length, hπin_length, hψin_length, kept-sized, view_kept}
use Rattle.protocol.proofs.Demand3.{works, is_accepted_lem}

-- ---- refusals

-- Each number of a list of tests is of document 01's table.
abbrev Listed : List Check → Type 0
Listed [] = Unit {0}
Listed ((b ⇒ n) ∷ l) = Within 1 23 n × Listed l

-- The first number that applies, or what is read where none does.
read_fits : (l : List Check) (r : Reading) → Listed l → (Clean l → Fits r) → Fits (read_of (first l) r)
unfolding first read_of
read_fits [] r h g = g tt
read_fits ((true ⇒ n) ∷ l) r h g = h.0
read_fits ((false ⇒ n) ∷ l) r h g = read_fits l r h.1 (λ c. g (refl, c))

-- ---- comparisons
abbrev Narrow : Comparison → Type 0
Narrow c = Within 1 8 c.kind × (c.party ≤ 32) × (length c.one ≤ 16400) × (length c.two ≤ 16400)

abbrev Narrows : List Comparison → Type 0
Narrows [] = Unit {0}
Narrows (c ∷ l) = Narrow c × Narrows l

narrows_append : (a b : List Comparison) → Narrows a → Narrows b → Narrows (a ++ b)
narrows_append [] b h k = k
narrows_append (c ∷ a) b h k = (h.0, narrows_append a b h.1 k)

narrows_cat : (n : ℕ) (f : ℕ → List Comparison) → ((i : ℕ) → i < n → Narrows (f i)) → Narrows (cat n f)
unfolding cat
narrows_cat zero f h = tt
narrows_cat (suc n) f h = narrows_append (cat n f) (f n) (narrows_cat n f (λ i l. h i (omega arith))) (h n (omega arith))

narrows_pick : (t : Bool) (c : Comparison) → Narrow c → Narrows (pick t (c ∷ []) [])
narrows_pick true c h = (h, tt)
narrows_pick false c h = tt

different_fits : (e : ℕ) (l : List Comparison) (r : Reading) → Within 1 32 e → Narrows l → Fits r → Fits (first_different e l r)
unfolding first_different
different_fits e [] r w h g = g
different_fits e (c ∷ l) r w h g = go (same c.one c.two) (different_fits e l r w h.1 g)
  where
    go : (t : Bool) → Fits (first_different e l r) → Fits (pick t (first_different e l r) (collision c.kind e c.party c.one c.two))
    go true z = z
    go false z = (h.0.0, w, h.0.1, h.0.2, h.0.3)

-- ---- a kept execution of two transcripts of good form
module _ (K : Key) (P R : Parts) (key : GoodKey K) (e : ℕ) (within : e < K.M) where
  module _ (p : GoodParts K P) (r : GoodParts K R) (kept : opened P.p2 e ≡ false) (kept' : opened R.p2 e ≡ false) where
    sized : (Q : Parts) → GoodParts K Q → opened Q.p2 e ≡ false → Sized K (view K Q e)
    sized Q g c = subst (Sized K) (sym (view_kept K Q g e within c)) (kept-sized K Q g e within c)

    -- the inputs of a transcript's hashes
    module _ (Q : Parts) (g : GoodParts K Q) (c : opened Q.p2 e ≡ false) where
      hΓ_short : length (hΓin K (view K Q)) ≤ 16400
      hΓ_short = omega (arith, hΓin_length K (view K Q), key.executions_most)

      h_short : length (hin K (view K Q e)) ≤ 16400
      h_short = omega (arith, hin_length K (view K Q e) (sized Q g c), parties_most key.N)

      Γ_short : (i : ℕ) → length (Γin K (view K Q e) i) ≤ 16400
      Γ_short i = omega (arith, Γin_length K (view K Q e) (sized Q g c) i, most (is_n K i), key.m_most)
        where
          most : (t : Bool) → pick t (4 * K.m) 0 ≤ 4 * K.m
          most true = omega arith
          most false = omega arith

      Ω_short : length (Ωin K (view K Q e)) ≤ 16400
      Ω_short = omega (arith, Ωin_length K (view K Q e), key.m_most)

      hπ_short : length (hπin K (view K Q) Q.p2 (κ K Q)) ≤ 16400
      hπ_short = omega (arith, hπin_length K (view K Q) Q.p2 (κ K Q), count-le K.M (λ j. not (opened Q.p2 j)), key.executions_most)

      Π_short : length (Πin K (view K Q e) (κ K Q)) ≤ 16400
      Π_short =
          omega (
            arith,
            Πin_length K (view K Q e) (κ K Q),
            mul-le-mul {n₁ = K.m} {m₁ = 4 * K.N} {n₂ = 128} {m₂ = 128} key.m_most (omega (arith, parties_most key.N)),
          )

      hψ_short : length (hψin K (view K Q) Q.p2 (κ K Q) Q.p4) ≤ 16400
      hψ_short =
          omega (arith, hψin_length K (view K Q) Q.p2 (κ K Q) Q.p4, count-le K.M (λ j. not (opened Q.p2 j)), key.executions_most)

      Ψ_short : length (Ψin K (view K Q e) (κ K Q) Q.p4) ≤ 16400
      Ψ_short = omega (arith, Ψin_length K (view K Q e) (κ K Q) Q.p4, parties_most key.N)

    narrow : Narrows (comparisons K P R e)
    unfolding comparisons
    narrow = (
      ((omega arith, omega arith), omega arith, hΓ_short P p kept, hΓ_short R r kept'),
      (
        ((omega arith, omega arith), omega arith, h_short P p kept, h_short R r kept'),
        narrows_append (cat K.N Γs ++ Ωs) _ (narrows_append (cat K.N Γs) Ωs (narrows_cat K.N Γs Γs_narrow) Ωs_narrow) (
          ((omega arith, omega arith), omega arith, hπ_short P p kept, hπ_short R r kept'),
          (
            ((omega arith, omega arith), omega arith, Π_short P p kept, Π_short R r kept'),
            (
              ((omega arith, omega arith), omega arith, hψ_short P p kept, hψ_short R r kept'),
              (((omega arith, omega arith), omega arith, Ψ_short P p kept, Ψ_short R r kept'), tt),
            ),
          ),
        ),
      ),
    )
      where
        Γs : ℕ → List Comparison
        Γs i = pick (open_in_both K P R e i) (compare 3 (suc i) (Γin K (view K P e) i) (Γin K (view K R e) i) ∷ []) []

        Ωs : List Comparison
        Ωs = pick (open_in_both K P R e (K.N - 1)) (compare 4 K.N (Ωin K (view K P e)) (Ωin K (view K R e)) ∷ []) []

        Γs_narrow : (i : ℕ) → i < K.N → Narrows (Γs i)
        Γs_narrow i h =
            narrows_pick (open_in_both K P R e i) (compare 3 (suc i) (Γin K (view K P e) i) (Γin K (view K R e) i)) (
              (omega arith, omega arith),
              omega (arith, parties_most key.N),
              Γ_short P p kept i,
              Γ_short R r kept' i,
            )

        Ωs_narrow : Narrows Ωs
        Ωs_narrow =
            narrows_pick (open_in_both K P R e (K.N - 1)) (compare 4 K.N (Ωin K (view K P e)) (Ωin K (view K R e))) (
              (omega arith, omega arith),
              parties_most key.N,
              Ω_short P p kept,
              Ω_short R r kept',
            )

  -- ---- findings 2 to 4
  joined_most : (f : Key → View → ℕ → ℕ → ℕ) (k : ℕ) → joined K P R e f k < 2147483647
  unfolding joined
  joined_most f k = omega (arith, mod-lt (sum K.N (λ i. f K (source K P R e i) k i)) (q_positive key.q), q_most key.q)

  e_within : Within 1 32 (suc e)
  e_within = (omega arith, omega (arith, key.executions_most))

  uv_most : length (uv K P R e) ≤ 160
  unfolding uv
  uv_most =
      let u : ℕ → ℕ = u_of K.q K.m (A K) (t K) (joined K P R e s) in
      let v : ℕ → ℕ = v_of K.q (joined K P R e s) in
      omega (
        arith,
        length-append (tab K.n u) (tab K.m v),
        tab-length K.n u,
        tab-length K.m v,
        key.n_most,
        key.m_most,
      )

  values_fit : Fits (values K P R e)
  unfolding values
  values_fit =
      go (holds (solves K (joined K P R e s) ∷ binary K (joined K P R e s) ∷ [])) (ltb (wrong_square K P R e) K.m) refl
    where
      go : (t z : Bool) → ltb (wrong_square K P R e) K.m ≡ z
          → Fits
          (pick t (secret (tab K.m (joined K P R e s)))
          (pick z
          (square (suc e) (suc (wrong_square K P R e)) (joined K P R e b (wrong_square K P R e)) (joined K P R e d (wrong_square K P R e)))
          (errors (suc e) (uv K P R e))))
      go true z h = omega (arith, tab-length K.m (joined K P R e s), key.m_most)
      go false true h = (e_within, (omega arith, omega (arith, ltb-true (wrong_square K P R e) K.m h, key.m_most)), joined_most b (wrong_square K P R e), joined_most d (wrong_square K P R e))
      go false false h = (e_within, uv_most)

-- ---- the whole reader
finding_fits : (K : Key) (P R : Parts) → GoodKey K → GoodParts K P → GoodParts K R → P.p2 ≡ R.p2 → (P.p6 ≡ R.p6 → ⊥) → Fits (finding K P R)
unfolding finding
finding_fits K P R key p r same2 differ =
    let e = execution K P R in
    let at : Works K P R e = works K P R key p r same2 differ in
    let kept' : opened R.p2 e ≡ false = subst (λ (E : List ℕ). opened E e ≡ false) same2 at.kept in
    different_fits (suc e) (comparisons K P R e) (values K P R e) (e_within K P R key e at.within)
    (narrow K P R key e at.within p r at.kept kept') (values_fit K P R key e at.within)

pub readings_fit : (key x y : List ℕ) (l : Lengths) → Fits (pair key l x y)
unfolding pair pair_checks key_checks same_front
readings_fit key x y l =
    read_fits (pair_checks key l x y) (finding (key_of key) (parts_of x) (parts_of y)) listed
    (λ c.
    let K = key_of key in
    let own = c.1.1.1.1.1 in
    let f = holds-each _ (not-false _ own.1.1.1.0) in
    finding_fits K (parts_of x) (parts_of y)
    (good K key (c.0, (c.1.0, (c.1.1.0, (c.1.1.1.0, (c.1.1.1.1.0, tt))))))
    (run_facts K x (is_accepted_lem _ (not-false _ own.1.0))).1
    (run_facts K y (is_accepted_lem _ (not-false _ own.1.1.0))).1
    (same_eq _ _ f.1.0) (same_differ _ _ own.1.1.1.1.0))
  where
    listed : Listed (pair_checks key l x y)
    listed = (
      (omega arith, omega arith),
      (
        (omega arith, omega arith),
        (
          (omega arith, omega arith),
          (
            (omega arith, omega arith),
            (
              (omega arith, omega arith),
              ((omega arith, omega arith), ((omega arith, omega arith), ((omega arith, omega arith), ((omega arith, omega arith), ((omega arith, omega arith), tt))))),
            ),
          ),
        ),
      ),
    )
