-- Two of the prover's own transcripts of one run, with two hidden lists, give finding 2: every comparison's inputs are equal, and the
-- joined s is the secret that the prover dealt. Assumes nothing.
use Prim.Native.Nat.{ℕ, zero, suc, ◌-◌, ◌%◌, ◌≤◌, ◌<◌}
use mathlib.Core.Path.{◌≡◌, refl, sym, ap, ap₂, ◌∙◌, subst}
use mathlib.Core.Bool.{Bool, true, false}
use mathlib.Core.List.{List, [], ◌∷◌, ◌++◌}
use native.Mathlib.Nat.{mod-eq_of_lt}
use native.Mathlib.Omega.{arith}
use lib.ListN.{length, get_or}
use borrow.Author.Tests.{eqb-true, eqb-false, not-true, not-false}
use Rattle.lists.specs.Tab.{list_is_tab}
use Rattle.lists.specs.Index.{pick, cat}
use Rattle.lists.specs.Check.{accepted, first}
use Rattle.lists.specs.TestLaws.{pick_true, same_of, holds-each, each_holds, Clean, clean, clean-left, clean-right}
use Rattle.numbers.proofs.Sum.{sum_ext}
use Rattle.numbers.proofs.Inverse.{q_least}
use Rattle.numbers.specs.Output.{join}
use Rattle.protocol.specs.Key.{Key, key_of, key_checks}
use Rattle.protocol.specs.Shares.{View, is_hidden, s, Γin, Ωin}
use Rattle.protocol.specs.Prover.{master, prover_view, statement_checks, checks5, checks7}
use Rattle.protocol.specs.Transcript.{Parts, transcript}
use Rattle.protocol.specs.Honest.{honest_parts}
use Rattle.protocol.specs.Judge.{kept_view, view}
use Rattle.protocol.specs.Pair.{Comparison, compare, Reading, secret, first_different, execution, open_in_both, comparisons, source, joined, values, finding, Lengths, pair}
use Rattle.protocol.specs.Accepts.{GoodKey, GoodParts}
use Rattle.protocol.specs.Demand3.{Equal, Solution, Works, LongEnough}
use Rattle.protocol.proofs.KeyFacts.{good}
use Rattle.protocol.proofs.Facts.{accepts}
use Rattle.protocol.proofs.HonestSum.{dealt_s}
use Rattle.protocol.proofs.HonestParts.{Valid, valid}
use Rattle.protocol.proofs.Sees.{Sees, sees_s, sees_Γin, sees_hin, sees_Ωin}
use Rattle.protocol.proofs.Acceptance.{view_kept, view_sees, hΓin_is, Πin_is, Ψin_is, hπin_is, hψin_is}
use Rattle.protocol.proofs.Demand3.{works, solution_of, solution_holds, solution_ext, forked-pair}
use Rattle.protocol.proofs.Demand3Witness.{honest_parts_lem, honest-forked}

-- ---- lists of comparisons
equal_append : (a b : List Comparison) → Equal a → Equal b → Equal (a ++ b)
equal_append [] b h k = k
equal_append (c ∷ a) b h k = (h.0, equal_append a b h.1 k)

equal_cat : (n : ℕ) (f : ℕ → List Comparison) → ((i : ℕ) → i < n → Equal (f i)) → Equal (cat n f)
unfolding cat
equal_cat zero f h = tt
equal_cat (suc n) f h = equal_append (cat n f) (f n) (equal_cat n f (λ i l. h i (omega arith))) (h n (omega arith))

-- All inputs are equal: what follows the comparisons is read.
none_different : (e : ℕ) (l : List Comparison) (r : Reading) → Equal l → first_different e l r ≡ r
unfolding first_different
none_different e [] r h = refl
none_different e (c ∷ l) r h = rw (same_of h.0) (none_different e l r h.1)

-- ---- what the prover's checks say of the secret
record Own (K : Key) (bits : List ℕ) : Type 0 where
  pub long : length bits ≡ K.m
  pub solution : Solution K (λ k. get_or bits k 0)

own : (K : Key) (seeds bits E κ L hid : List ℕ) → Clean (checks7 K seeds bits E κ L hid) → Own K bits
unfolding checks7 checks5 statement_checks
own K seeds bits E κ L hid c =
    record {
      long = eqb-true _ _ (holds-each _ (not-false _ c.0)).1.0;
      solution = solution_of K (λ k. get_or bits k 0) (each_holds _ (not-false _ c.1.1.1.0, (not-false _ c.1.1.0, tt)));
    }

-- ---- two views of one execution of the prover's that hide different parties
module _ (K : Key) (L : List ℕ) (p v w : View) (S : Sees K L p v) (T : Sees K L p w) (differ : v.hid ≡ w.hid → ⊥) where
  -- Party i's s, from the first view in which it is open, is the prover's.
  source_s : (k i : ℕ) → k < K.m → i < K.N → s K (pick (is_hidden K v i) w v) k i ≡ s K p k i
  source_s k i y h = go (is_hidden K v i) refl
    where
      go : (t : Bool) → is_hidden K v i ≡ t → s K (pick t w v) k i ≡ s K p k i
      go true z = sees_s K L p w T i h (λ o. differ (sym (eqb-true i v.hid z) ∙ o)) k y
      go false z = sees_s K L p v S i h (eqb-false i v.hid z) k y

-- ---- two transcripts of one run
module _ (K : Key) (seeds bits E κ L hid₁ hid₂ : List ℕ) (G : GoodKey K) (I₁ : Valid K seeds bits E κ L hid₁)
    (I₂ : Valid K seeds bits E κ L hid₂) (O : Own K bits) where
  abbrev P : Parts
  P = honest_parts K seeds bits E κ L hid₁

  abbrev R : Parts
  R = honest_parts K seeds bits E κ L hid₂

  abbrev whole : ℕ → View
  whole e = prover_view K seeds bits e

  module _ (e : ℕ) (at : Works K P R e) where
    S : Sees K L (whole e) (view K P e)
    S = view_sees K seeds bits E κ L hid₁ G I₁ e at.within at.kept

    T : Sees K L (whole e) (view K R e)
    T = view_sees K seeds bits E κ L hid₂ G I₂ e at.within at.kept

    hid_differ : (view K P e).hid ≡ (view K R e).hid → ⊥
    unfolding kept_view
    hid_differ z =
        at.differ
        (sym (ap (λ (v : View). v.hid) (view_kept K seeds bits E κ L hid₁ G I₁ e at.kept)) ∙ z
        ∙ ap (λ (v : View). v.hid) (view_kept K seeds bits E κ L hid₂ G I₂ e at.kept))

    -- party i is open in both
    open_v : (i : ℕ) → open_in_both K P R e i ≡ true → i ≡ (view K P e).hid → ⊥
    unfolding open_in_both
    open_v i q = eqb-false _ _ (not-true _ (holds-each _ q).0)

    open_w : (i : ℕ) → open_in_both K P R e i ≡ true → i ≡ (view K R e).hid → ⊥
    unfolding open_in_both
    open_w i q = eqb-false _ _ (not-true _ (holds-each _ q).1.0)

    abbrev Γs : ℕ → List Comparison
    Γs i = pick (open_in_both K P R e i) (compare 3 (suc i) (Γin K (view K P e) i) (Γin K (view K R e) i) ∷ []) []

    abbrev Ωs : List Comparison
    Ωs = pick (open_in_both K P R e (K.N - 1)) (compare 4 K.N (Ωin K (view K P e)) (Ωin K (view K R e)) ∷ []) []

    Γ_equal : (i : ℕ) → i < K.N → Equal (Γs i)
    Γ_equal i h = go (open_in_both K P R e i) refl
      where
        go : (t : Bool) → open_in_both K P R e i ≡ t
            → Equal (pick t (compare 3 (suc i) (Γin K (view K P e) i) (Γin K (view K R e) i) ∷ []) [])
        go true z =
            (sees_Γin K L (whole e) (view K P e) S i h (open_v i z) ∙ sym (sees_Γin K L (whole e) (view K R e) T i h (open_w i z)), tt)
        go false z = tt

    Ω_equal : Equal Ωs
    Ω_equal = go (open_in_both K P R e (K.N - 1)) refl
      where
        go : (t : Bool) → open_in_both K P R e (K.N - 1) ≡ t
            → Equal (pick t (compare 4 K.N (Ωin K (view K P e)) (Ωin K (view K R e)) ∷ []) [])
        go true z = (
          sees_Ωin K L (whole e) (view K P e) S (λ y. open_v (K.N - 1) z (omega arith))
              ∙ sym (sees_Ωin K L (whole e) (view K R e) T (λ y. open_w (K.N - 1) z (omega arith))),
          tt,
        )
        go false z = tt

    all_equal : Equal (comparisons K P R e)
    unfolding comparisons
    all_equal = (
      hΓin_is K seeds bits E κ L hid₁ G I₁ ∙ sym (hΓin_is K seeds bits E κ L hid₂ G I₂),
      (
        sees_hin K L (whole e) (view K P e) S ∙ sym (sees_hin K L (whole e) (view K R e) T),
        equal_append (cat K.N Γs ++ Ωs) _ (equal_append (cat K.N Γs) Ωs (equal_cat K.N Γs Γ_equal) Ω_equal) (
          hπin_is K seeds bits E κ L hid₁ G I₁ ∙ sym (hπin_is K seeds bits E κ L hid₂ G I₂),
          (
            Πin_is K seeds bits E κ L hid₁ G I₁ e at.within at.kept
                ∙ sym (Πin_is K seeds bits E κ L hid₂ G I₂ e at.within at.kept),
            (
              hψin_is K seeds bits E κ L hid₁ G I₁ ∙ sym (hψin_is K seeds bits E κ L hid₂ G I₂),
              (
                Ψin_is K seeds bits E κ L hid₁ G I₁ e at.within at.kept
                    ∙ sym (Ψin_is K seeds bits E κ L hid₂ G I₂ e at.within at.kept),
                tt,
              ),
            ),
          ),
        ),
      ),
    )

    -- The shares add up to the secret, whose entries are 0 or 1 and so below q.
    joined_is : (k : ℕ) → k < K.m → joined K P R e s k ≡ get_or bits k 0
    unfolding joined source prover_view join
    joined_is k h =
        let small : get_or bits k 0 ≤ 1 = O.solution.binary k h in
        ap (λ (x : ℕ). x % K.q)
        (sum_ext K.N (λ i l. source_s K L (whole e) (view K P e) (view K R e) S T hid_differ k i h l))
        ∙ (dealt_s K e (master K seeds bits e) (λ j. get_or bits j 0) G.q G.N k).same
        ∙ mod-eq_of_lt (omega (arith, q_least G.q))

    values_are : values K P R e ≡ secret bits
    unfolding values
    values_are =
        pick_true _ _ _
        (solution_holds K (joined K P R e s)
        (solution_ext K (λ k. get_or bits k 0) (joined K P R e s) (λ k h. sym (joined_is k h)) O.solution))
        ∙ ap secret (sym (list_is_tab K.m bits (joined K P R e s) O.long (λ k h. sym (joined_is k h))))

  finding_is : Works K P R (execution K P R) → finding K P R ≡ secret bits
  unfolding finding
  finding_is at = none_different _ _ _ (all_equal (execution K P R) at) ∙ values_are (execution K P R) at

-- The pair reader gives the secret of the prover whose messages the two transcripts are made of.
pub honest_secret : (key seeds bits E κ L hid₁ hid₂ : List ℕ) (l : Lengths)
    → LongEnough key l
    → first (key_checks (key_of key) key ++ checks7 (key_of key) seeds bits E κ L hid₁) ≡ accepted
    → first (key_checks (key_of key) key ++ checks7 (key_of key) seeds bits E κ L hid₂) ≡ accepted
    → (hid₁ ≡ hid₂ → ⊥)
    → pair key l (transcript (honest_parts (key_of key) seeds bits E κ L hid₁)) (transcript (honest_parts (key_of key) seeds bits E κ L hid₂))
    ≡ secret bits
honest_secret key seeds bits E κ L hid₁ hid₂ l enough e₁ e₂ differ =
    let f = honest-forked key seeds bits E κ L hid₁ hid₂ e₁ e₂ differ in
    let a = honest_parts_lem key seeds bits E κ L hid₁ e₁ in
    let b = honest_parts_lem key seeds bits E κ L hid₂ e₂ in
    let c₁ = clean (key_checks (key_of key) key ++ checks7 (key_of key) seeds bits E κ L hid₁) e₁ in
    let c₂ = clean (key_checks (key_of key) key ++ checks7 (key_of key) seeds bits E κ L hid₂) e₂ in
    let k₁ = clean-right (key_checks (key_of key) key) (checks7 (key_of key) seeds bits E κ L hid₁) c₁ in
    let k₂ = clean-right (key_checks (key_of key) key) (checks7 (key_of key) seeds bits E κ L hid₂) c₂ in
    let G : GoodKey (key_of key) = good (key_of key) key (clean-left (key_checks (key_of key) key) (checks7 (key_of key) seeds bits E κ L hid₁) c₁) in
    forked-pair key (transcript (honest_parts (key_of key) seeds bits E κ L hid₁)) (transcript (honest_parts (key_of key) seeds bits E κ L hid₂)) l enough f
    ∙ ap₂ (finding (key_of key)) a b
    ∙ finding_is (key_of key) seeds bits E κ L hid₁ hid₂ G (valid (key_of key) seeds bits E κ L hid₁ G k₁)
    (valid (key_of key) seeds bits E κ L hid₂ G k₂) (own (key_of key) seeds bits E κ L hid₁ k₁)
    (works (key_of key) (honest_parts (key_of key) seeds bits E κ L hid₁) (honest_parts (key_of key) seeds bits E κ L hid₂) G
    (subst (GoodParts (key_of key)) a (accepts key _ f.first).good_parts)
    (subst (GoodParts (key_of key)) b (accepts key _ f.second).good_parts) refl differ)
