-- Steps of the proofs of this crate: the first spot of joined lists of spots, each group of the pair reader's list, and the list laid out.
-- Assumes nothing.
use Prim.Native.Nat.{ℕ, zero, suc, ◌+◌, ◌*◌, ◌-◌, ◌≤◌, ◌<◌}
use mathlib.Core.Path.{◌≡◌, refl, sym, ap, ap₂, ◌∙◌, subst}
use mathlib.Core.Logic.{◌⊎◌, inl, inr}
use mathlib.Core.Bool.{Bool, true, false, not, cond}
use mathlib.Core.List.{List, [], ◌∷◌, ◌++◌, append_assoc}
use native.Mathlib.Nat.{not-suc-le-zero, le_of_suc-le-suc, eq-or-lt_of_le, mul-le-mul}
use native.Mathlib.Numerals.{add-one}
use native.Mathlib.Omega.{arith}
use lib.Dec.{eqb}
use borrow.Author.Tests.{eqb-false, eq-eqb, ne_eqb, not-true}
use Rattle.std.specs.Prelude.{Option, Some, None, IfSome}
use Rattle.std.specs.List.{find}
use Rattle.std.specs.Option.{option_map}
use Rattle.lists.specs.Index.{pick, part, cat, same}
use Rattle.lists.specs.TestLaws.{pick_true, pick_false, holds-each}
use Rattle.lists.specs.CatLaws.{cat_ext}
use Rattle.protocol.specs.Key.{Key, kept_count}
use Rattle.protocol.specs.Shares.{View, Γin, hin, Ωin, Πin, Ψin}
use Rattle.protocol.specs.Prover.{opened, hΓin, hπin, hψin}
use Rattle.protocol.specs.Transcript.{Parts}
use Rattle.protocol.specs.Judge.{hidden, κ, kept_view, view}
use Rattle.protocol.specs.Pair.{Comparison, Reading, first_different, compare, open_in_both, comparisons}
use Rattle.key.specs.declared.sizes.Numbers.{Numbers}
use Rattle.walk.specs.Lists.{Listed, lists_size}
use Rattle.inputs.specs.Layout.{Written, execution_size, Γ_from, Γ_size, Ω_from, Π_from, Ψ_from}
use Rattle.compare.specs.declared.Kind.TheVariants.{Gamma, Omega}
use Rattle.compare.specs.declared.Source.TheVariants.{Execution}
use Rattle.compare.specs.declared.Spot.{Spot}
use Rattle.compare.specs.Kinds.{number, party_number}
use Rattle.compare.specs.Spots.{Inside, at, shown, first_spot, read_at, open_both, on_hashes, on_party, on_last, on_rest, on_all}

-- ---- a party open in both
open_facts : (h1 h2 i : ℕ) → open_both h1 h2 i ≡ true → (i ≡ h1 → ⊥) × (i ≡ h2 → ⊥)
unfolding open_both
open_facts h1 h2 i e =
    let l = holds-each (not (eqb i h1) ∷ not (eqb i h2) ∷ []) e in
    (eqb-false i h1 (not-not l.0), eqb-false i h2 (not-not l.1.0))
  where
    not-not : {t : Bool} → not t ≡ true → t ≡ false
    not-not {t} e = not-true t e

-- ---- the first spot at which the lists differ
pub same_spot : (o : Option Spot) → option_map (λ r. r) o ≡ o
same_spot None = refl
same_spot (Some r) = refl

module _ (l1 l2 i1 i2 : List ℕ) where
  abbrev F : List Spot → Option Spot
  F ss = first_spot ss l1 l2 i1 i2

  -- std's search for a spot at which they differ
  pub found_first : (ss : List Spot) → find (λ r. not (same (shown r l1 i1) (shown r l2 i2))) ss ≡ F ss
  unfolding first_spot
  found_first [] = refl
  found_first (r ∷ ss) = go (found_first ss) (same (shown r l1 i1) (shown r l2 i2))
    where
      go : find (λ r. not (same (shown r l1 i1) (shown r l2 i2))) ss ≡ F ss → (t : Bool)
          → cond (not t) (Some r) (find (λ r. not (same (shown r l1 i1) (shown r l2 i2))) ss) ≡ pick t (F ss) (Some r)
      go ih true = ih
      go ih false = refl

  -- Where the first list finds no difference, the second decides; where it finds one, the joined list finds it.
  pub passes : (a b : List Spot) → F a ≡ None → F (a ++ b) ≡ F b
  unfolding first_spot
  passes [] b e = refl
  passes (r ∷ a) b e = go (passes a b) (same (shown r l1 i1) (shown r l2 i2)) e
    where
      go : (F a ≡ None → F (a ++ b) ≡ F b) → (t : Bool) → pick t (F a) (Some r) ≡ None → pick t (F (a ++ b)) (Some r) ≡ F b
      go ih true e = ih e
      go ih false e = absurd (cc e)

  pub hits : (a b : List Spot) {r : Spot} → F a ≡ Some r → F (a ++ b) ≡ Some r
  unfolding first_spot
  hits [] b e = absurd (cc e)
  hits (s ∷ a) b {r} e = go (hits a b) (same (shown s l1 i1) (shown s l2 i2)) e
    where
      go : (F a ≡ Some r → F (a ++ b) ≡ Some r) → (t : Bool) → pick t (F a) (Some s) ≡ Some r → pick t (F (a ++ b)) (Some s) ≡ Some r
      go ih true e = ih e
      go ih false e = e

  -- ---- spots of each index in turn
  module _ (f : ℕ → List Spot) where
    pub cat-start : F (cat 0 f) ≡ None
    unfolding cat first_spot
    cat-start = refl

    pub cat-next : (i : ℕ) → F (cat i f) ≡ None → F (f i) ≡ None → F (cat (i + 1) f) ≡ None
    unfolding cat
    cat-next i h e = ap (λ (j : ℕ). F (cat j f)) (add-one i) ∙ (passes (cat i f) (f i) h ∙ e)

    pub cat_stops : (n i : ℕ) {r : Spot} → i < n → F (cat i f) ≡ None → F (f i) ≡ Some r → F (cat n f) ≡ Some r
    unfolding cat
    cat_stops zero i h a e = absurd (not-suc-le-zero h)
    cat_stops (suc n) i {r} h a e = go (cat_stops n i) (eq-or-lt_of_le (le_of_suc-le-suc h))
      where
        go : (i < n → F (cat i f) ≡ None → F (f i) ≡ Some r → F (cat n f) ≡ Some r) → (i ≡ n) ⊎ (i < n) → F (cat n f ++ f n) ≡ Some r
        go ih (inl q) = passes (cat n f) (f n) (subst (λ (j : ℕ). F (cat j f) ≡ None) q a) ∙ subst (λ (j : ℕ). F (f j) ≡ Some r) q e
        go ih (inr l) = hits (cat n f) (f n) (ih l a e)

-- ---- all groups
module _ (m N M c h1 h2 : ℕ) (l1 l2 i1 i2 : List ℕ) where
  abbrev g_h : List Spot
  g_h = on_hashes M N

  abbrev g_p : List Spot
  g_p = cat N (on_party m N h1 h2)

  abbrev g_l : List Spot
  g_l = on_last m N h1 h2

  abbrev g_r : List Spot
  g_r = on_rest m N M c

  abbrev G : List Spot → Option Spot
  G ss = first_spot ss l1 l2 i1 i2

  abbrev All : Option Spot
  All = G (on_all m N M c h1 h2)

  pub all_stop : {r : Spot} → G g_h ≡ Some r → All ≡ Some r
  unfolding on_all
  all_stop a = hits l1 l2 i1 i2 g_h (g_p ++ (g_l ++ g_r)) a

  pub all_stop_2 : {r : Spot} → G g_h ≡ None → G g_p ≡ Some r → All ≡ Some r
  unfolding on_all
  all_stop_2 a b = passes l1 l2 i1 i2 g_h (g_p ++ (g_l ++ g_r)) a ∙ hits l1 l2 i1 i2 g_p (g_l ++ g_r) b

  pub all_stop_3 : {r : Spot} → G g_h ≡ None → G g_p ≡ None → G g_l ≡ Some r → All ≡ Some r
  unfolding on_all
  all_stop_3 a b d =
      passes l1 l2 i1 i2 g_h (g_p ++ (g_l ++ g_r)) a
      ∙ (passes l1 l2 i1 i2 g_p (g_l ++ g_r) b ∙ hits l1 l2 i1 i2 g_l g_r d)

  pub all_end : G g_h ≡ None → G g_p ≡ None → G g_l ≡ None → All ≡ G g_r
  unfolding on_all
  all_end a b d =
      passes l1 l2 i1 i2 g_h (g_p ++ (g_l ++ g_r)) a
      ∙ (passes l1 l2 i1 i2 g_p (g_l ++ g_r) b ∙ passes l1 l2 i1 i2 g_l g_r d)

-- ---- a party's spots
pub party_closed : (m N h1 h2 i : ℕ) → open_both h1 h2 i ≡ false → on_party m N h1 h2 i ≡ []
unfolding on_party
party_closed m N h1 h2 i e = pick_false _ _ _ e

pub party_open : (m N h1 h2 i size : ℕ) {r : Spot} → open_both h1 h2 i ≡ true → r ≡ at Gamma (Some (i + 1)) Execution (32 * N + 32 * i) size → size ≡ Γ_size m N i
    → on_party m N h1 h2 i ≡ r ∷ []
unfolding on_party
party_open m N h1 h2 i size o e z =
    pick_true _ _ _ o ∙ sym (λ j. (e ∙ ap₂ (λ (a b : ℕ). at Gamma (Some a) Execution (32 * N + 32 * i) b) (add-one i) z) j ∷ [])

pub size_last : (m N i : ℕ) → i + 1 ≡ N → 32 + 4 * m ≡ Γ_size m N i
size_last m N i e = ap (λ (n : ℕ). 32 + n) (sym (pick_true _ (4 * m) 0 (eq-eqb (suc i) N (sym (add-one i) ∙ e))))

pub size_other : (m N i : ℕ) → (i + 1 ≡ N → ⊥) → 32 ≡ Γ_size m N i
size_other m N i n = ap (λ (n : ℕ). 32 + n) (sym (pick_false _ (4 * m) 0 (ne_eqb (suc i) N (λ z. n (add-one i ∙ z)))))

pub last_closed : (m N h1 h2 : ℕ) → open_both h1 h2 (N - 1) ≡ false → on_last m N h1 h2 ≡ []
unfolding on_last
last_closed m N h1 h2 e = pick_false _ _ _ e

pub last_open : (m N h1 h2 : ℕ) → open_both h1 h2 (N - 1) ≡ true → on_last m N h1 h2 ≡ at Omega (Some N) Execution (Ω_from m N) (4 * m + 16) ∷ []
unfolding on_last
last_open m N h1 h2 e = pick_true _ _ _ e

-- ---- each place lies in the lists
module _ (lists inputs : ℕ) where
  abbrev Each : List Spot → Type 0
  Each [] = Unit {0}
  Each (r ∷ rs) = Inside lists inputs r × Each rs

  inside_first : (l1 l2 i1 i2 : List ℕ) (ss : List Spot) → Each ss → IfSome (first_spot ss l1 l2 i1 i2) (λ r. Inside lists inputs r)
  unfolding first_spot
  inside_first l1 l2 i1 i2 [] h = tt
  inside_first l1 l2 i1 i2 (r ∷ ss) h = go (inside_first l1 l2 i1 i2 ss h.1) (same (shown r l1 i1) (shown r l2 i2))
    where
      go : IfSome (first_spot ss l1 l2 i1 i2) (λ r. Inside lists inputs r) → (t : Bool) → IfSome (pick t (first_spot ss l1 l2 i1 i2) (Some r)) (λ r. Inside lists inputs r)
      go ih true = ih
      go ih false = h.0

  each_append : (a b : List Spot) → Each a → Each b → Each (a ++ b)
  each_append [] b x y = y
  each_append (r ∷ a) b x y = (x.0, each_append a b x.1 y)

  each_cat : (n : ℕ) (f : ℕ → List Spot) → ((i : ℕ) → i < n → Each (f i)) → Each (cat n f)
  unfolding cat
  each_cat zero f h = tt
  each_cat (suc n) f h = each_append (cat n f) (f n) (each_cat n f (λ i l. h i (omega arith))) (h n (omega arith))

  each_pick : (t : Bool) (r : Spot) → Inside lists inputs r → Each (pick t (r ∷ []) [])
  each_pick true r h = (h, tt)
  each_pick false r h = tt

gamma_most : (m N i : ℕ) → Γ_size m N i ≤ 32 + 4 * m
gamma_most m N i = go (eqb (suc i) N)
  where
    go : (t : Bool) → 32 + pick t (4 * m) 0 ≤ 32 + 4 * m
    go true = omega arith
    go false = omega arith

pub all_inside : (m N M c h1 h2 : ℕ) (l1 l2 i1 i2 : List ℕ) → m ≤ 128 → N ≤ 32 → M ≤ 32 → c ≤ M
    → IfSome (first_spot (on_all m N M c h1 h2) l1 l2 i1 i2) (λ r. Inside (lists_size M c) (execution_size m N) r)
unfolding on_all on_hashes on_party on_last on_rest
all_inside m N M c h1 h2 l1 l2 i1 i2 hm hN hM hc =
    let grid : 4 * m * N ≤ 16384 = mul-le-mul {n₁ = 4 * m} {m₁ = N} {n₂ = 512} {m₂ = 32} (omega arith) hN in
    inside_first L X l1 l2 i1 i2 (on_all m N M c h1 h2)
    (each_append L X (on_hashes M N) (cat N (on_party m N h1 h2) ++ (on_last m N h1 h2 ++ on_rest m N M c))
    (record { within = omega arith; short = omega arith }, (record { within = omega arith; short = omega arith }, tt))
    (each_append L X (cat N (on_party m N h1 h2)) (on_last m N h1 h2 ++ on_rest m N M c)
    (each_cat L X N (on_party m N h1 h2) (λ i l.
    each_pick L X (open_both h1 h2 i) _ (record { within = omega (arith, gamma_most m N i); short = omega (arith, gamma_most m N i) })))
    (each_append L X (on_last m N h1 h2) (on_rest m N M c)
    (each_pick L X (open_both h1 h2 (N - 1)) _ (record { within = omega arith; short = omega arith })) (
      record { within = omega arith; short = omega arith },
      (
        record { within = omega arith; short = omega arith },
        (record { within = omega arith; short = omega arith }, (record { within = omega arith; short = omega arith }, tt)),
      ),
    ))))
  where
    L : ℕ
    L = lists_size M c

    X : ℕ
    X = execution_size m N

-- The answers of the crate's public function.
pub answered : (k : Numbers) (h1 h2 : ℕ) (l1 l2 i1 i2 : List ℕ) {o : Option Spot}
    → o ≡ first_spot (on_all k.m k.parties k.executions (k.executions - k.opened) h1 h2) l1 l2 i1 i2
    → IfSome o (λ r. Inside (lists_size k.executions (k.executions - k.opened)) (execution_size k.m k.parties) r)
    × (o ≡ first_spot (on_all k.m k.parties k.executions (k.executions - k.opened) h1 h2) l1 l2 i1 i2)
answered k h1 h2 l1 l2 i1 i2 e = (
  subst (λ (o : Option Spot). IfSome o (λ r. Inside (lists_size k.executions (k.executions - k.opened)) (execution_size k.m k.parties) r)) (sym e)
      (all_inside k.m k.parties k.executions (k.executions - k.opened) h1 h2 l1 l2 i1 i2 k.limits.m_most k.limits.parties_most k.limits.executions_most (omega arith)),
  e,
)

-- ---- spots as comparisons
module _ (l1 l2 i1 i2 : List ℕ) where
  unfoldable pub compared : List Spot → List Comparison
  compared [] = []
  compared (r ∷ rs) = compare (number r.kind) (party_number r.party) (shown r l1 i1) (shown r l2 i2) ∷ compared rs

  compared_append : (a b : List Spot) → compared (a ++ b) ≡ compared a ++ compared b
  unfolding compared
  compared_append [] b = refl
  compared_append (r ∷ a) b = ap (λ (x : List Comparison). compare (number r.kind) (party_number r.party) (shown r l1 i1) (shown r l2 i2) ∷ x) (compared_append a b)

  compared_cat : (n : ℕ) (f : ℕ → List Spot) → compared (cat n f) ≡ cat n (λ i. compared (f i))
  unfolding compared cat
  compared_cat zero f = refl
  compared_cat (suc n) f = compared_append (cat n f) (f n) ∙ ap (λ (x : List Comparison). x ++ compared (f n)) (compared_cat n f)

  -- all of them, group by group
  pub compared_all : (m N M c h1 h2 : ℕ)
      → compared (on_all m N M c h1 h2)
      ≡ compared (on_hashes M N) ++ (cat N (λ i. compared (on_party m N h1 h2 i)) ++ (compared (on_last m N h1 h2) ++ compared (on_rest m N M c)))
  unfolding on_all
  compared_all m N M c h1 h2 =
      compared_append (on_hashes M N) (cat N (on_party m N h1 h2) ++ (on_last m N h1 h2 ++ on_rest m N M c))
      ∙ ap (λ (x : List Comparison). compared (on_hashes M N) ++ x)
      (compared_append (cat N (on_party m N h1 h2)) (on_last m N h1 h2 ++ on_rest m N M c)
      ∙ ap₂ (λ (x y : List Comparison). x ++ y) (compared_cat N (on_party m N h1 h2)) (compared_append (on_last m N h1 h2) (on_rest m N M c)))

  -- what the first of them gives, or else x
  reads_first : (ss : List Spot) (e : ℕ) (x : Reading) → first_different e (compared ss) x ≡ read_at l1 l2 i1 i2 e x (first_spot ss l1 l2 i1 i2)
  unfolding compared first_different first_spot
  reads_first [] e x = refl
  reads_first (r ∷ ss) e x = go (reads_first ss e x) (same (shown r l1 i1) (shown r l2 i2))
    where
      go : first_different e (compared ss) x ≡ read_at l1 l2 i1 i2 e x (first_spot ss l1 l2 i1 i2) → (t : Bool)
          → pick t (first_different e (compared ss) x) (read_at l1 l2 i1 i2 e x (Some r)) ≡ read_at l1 l2 i1 i2 e x (pick t (first_spot ss l1 l2 i1 i2) (Some r))
      go ih true = ih
      go ih false = refl

-- ---- the pair reader's list
module _ (K : Key) (P R : Parts) (e h1 h2 : ℕ) (l1 l2 i1 i2 : List ℕ) (L1 : Listed K P l1) (L2 : Listed K R l2)
    (W1 : Written K (kept_view K P e) (κ K P) P.p4 i1) (W2 : Written K (kept_view K R e) (κ K R) R.p4 i2)
    (hid1 : hidden K P e ≡ h1) (hid2 : hidden K R e ≡ h2) (kept1 : opened P.p2 e ≡ false) (kept2 : opened R.p2 e ≡ false) where
  v_is : view K P e ≡ kept_view K P e
  unfolding view
  v_is = rw kept1

  w_is : view K R e ≡ kept_view K R e
  unfolding view
  w_is = rw kept2

  open_is : (i : ℕ) → open_in_both K P R e i ≡ open_both h1 h2 i
  unfolding open_in_both open_both view kept_view
  open_is i = rw (kept1, kept2, ← hid1, ← hid2)

  Γ_one : (i : ℕ) → i < K.N → (i ≡ h1 → ⊥) → part i1 (Γ_from K.N i) (Γ_size K.m K.N i) ≡ Γin K (view K P e) i
  unfolding kept_view
  Γ_one i b n = W1.Γ i b (λ z. n (z ∙ hid1)) ∙ ap (λ (v : View). Γin K v i) (sym v_is)

  Γ_two : (i : ℕ) → i < K.N → (i ≡ h2 → ⊥) → part i2 (Γ_from K.N i) (Γ_size K.m K.N i) ≡ Γin K (view K R e) i
  unfolding kept_view
  Γ_two i b n = W2.Γ i b (λ z. n (z ∙ hid2)) ∙ ap (λ (v : View). Γin K v i) (sym w_is)

  party_is : (i : ℕ) → i < K.N
      → pick (open_in_both K P R e i) (compare 3 (suc i) (Γin K (view K P e) i) (Γin K (view K R e) i) ∷ []) []
      ≡ compared l1 l2 i1 i2 (on_party K.m K.N h1 h2 i)
  unfolding on_party compared
  party_is i b = rw (open_is i) (go (open_both h1 h2 i) refl)
    where
      go : (t : Bool) → open_both h1 h2 i ≡ t
          → ◌≡◌ {A = List Comparison} (pick t (compare 3 (suc i) (Γin K (view K P e) i) (Γin K (view K R e) i) ∷ []) [])
          (compared l1 l2 i1 i2 (pick t (at Gamma (Some (suc i)) Execution (Γ_from K.N i) (Γ_size K.m K.N i) ∷ []) []))
      go true o =
          let f = open_facts h1 h2 i o in
          sym (ap₂ (λ (x y : List ℕ). compare 3 (suc i) x y ∷ []) (Γ_one i b f.0) (Γ_two i b f.1))
      go false o = refl

  last_is : 2 ≤ K.N
      → pick (open_in_both K P R e (K.N - 1)) (compare 4 K.N (Ωin K (view K P e)) (Ωin K (view K R e)) ∷ []) []
      ≡ compared l1 l2 i1 i2 (on_last K.m K.N h1 h2)
  unfolding on_last compared kept_view hidden
  last_is two = rw (open_is (K.N - 1)) (go (open_both h1 h2 (K.N - 1)) refl)
    where
      Ω_one : (K.N - 1 ≡ h1 → ⊥) → part i1 (Ω_from K.m K.N) (4 * K.m + 16) ≡ Ωin K (view K P e)
      Ω_one n = W1.Ω (λ z. n (apart (kept_view K P e).hid h1 z hid1)) ∙ ap (λ (v : View). Ωin K v) (sym v_is)
        where
          apart : (a h : ℕ) → suc a ≡ K.N → a ≡ h → K.N - 1 ≡ h
          apart a h z q = omega arith

      Ω_two : (K.N - 1 ≡ h2 → ⊥) → part i2 (Ω_from K.m K.N) (4 * K.m + 16) ≡ Ωin K (view K R e)
      Ω_two n = W2.Ω (λ z. n (apart (kept_view K R e).hid h2 z hid2)) ∙ ap (λ (v : View). Ωin K v) (sym w_is)
        where
          apart : (a h : ℕ) → suc a ≡ K.N → a ≡ h → K.N - 1 ≡ h
          apart a h z q = omega arith

      go : (t : Bool) → open_both h1 h2 (K.N - 1) ≡ t
          → ◌≡◌ {A = List Comparison} (pick t (compare 4 K.N (Ωin K (view K P e)) (Ωin K (view K R e)) ∷ []) [])
          (compared l1 l2 i1 i2 (pick t (at Omega (Some K.N) Execution (Ω_from K.m K.N) (4 * K.m + 16) ∷ []) []))
      go true o =
          let f = open_facts h1 h2 (K.N - 1) o in
          sym (ap₂ (λ (x y : List ℕ). compare 4 K.N x y ∷ []) (Ω_one f.0) (Ω_two f.1))
      go false o = refl

  -- the parties' comparisons as the definition has them
  abbrev parties_of : ℕ → List Comparison
  parties_of i = pick (open_in_both K P R e i) (compare 3 (suc i) (Γin K (view K P e) i) (Γin K (view K R e) i) ∷ []) []

  abbrev last_of : List Comparison
  last_of = pick (open_in_both K P R e (K.N - 1)) (compare 4 K.N (Ωin K (view K P e)) (Ωin K (view K R e)) ∷ []) []

  laid : 2 ≤ K.N → comparisons K P R e ≡ compared l1 l2 i1 i2 (on_all K.m K.N K.M (kept_count K) h1 h2)
  unfolding comparisons on_hashes on_rest compared
  laid two =
      append_assoc
      (compare 1 0 (hΓin K (view K P)) (hΓin K (view K R)) ∷ compare 2 0 (hin K (view K P e)) (hin K (view K R e)) ∷ cat K.N parties_of)
      last_of
      (compare 5 0 (hπin K (view K P) P.p2 (κ K P)) (hπin K (view K R) R.p2 (κ K R))
      ∷ compare 6 0 (Πin K (view K P e) (κ K P)) (Πin K (view K R e) (κ K R))
      ∷ compare 7 0 (hψin K (view K P) P.p2 (κ K P) P.p4) (hψin K (view K R) R.p2 (κ K R) R.p4)
      ∷ compare 8 0 (Ψin K (view K P e) (κ K P) P.p4) (Ψin K (view K R e) (κ K R) R.p4)
      ∷ [])
      ∙ (λ j.
      compare 1 0 (sym L1.hΓ j) (sym L2.hΓ j)
      ∷ compare 2 0 (h_one j) (h_two j)
      ∷ (cat_ext K.N party_is j
      ++ (last_is two j
      ++ (compare 5 0 (sym L1.hπ j) (sym L2.hπ j)
      ∷ compare 6 0 (Π_one j) (Π_two j)
      ∷ compare 7 0 (sym L1.hψ j) (sym L2.hψ j)
      ∷ compare 8 0 (Ψ_one j) (Ψ_two j)
      ∷ []))))
      ∙ sym (compared_all l1 l2 i1 i2 K.m K.N K.M (kept_count K) h1 h2)
    where
      h_one : hin K (view K P e) ≡ part i1 0 (32 * K.N)
      h_one = ap (λ (v : View). hin K v) v_is ∙ sym W1.h

      h_two : hin K (view K R e) ≡ part i2 0 (32 * K.N)
      h_two = ap (λ (v : View). hin K v) w_is ∙ sym W2.h

      Π_one : Πin K (view K P e) (κ K P) ≡ part i1 (Π_from K.m K.N) (4 * K.m * K.N + 16)
      Π_one = ap (λ (v : View). Πin K v (κ K P)) v_is ∙ sym W1.Π

      Π_two : Πin K (view K R e) (κ K R) ≡ part i2 (Π_from K.m K.N) (4 * K.m * K.N + 16)
      Π_two = ap (λ (v : View). Πin K v (κ K R)) w_is ∙ sym W2.Π

      Ψ_one : Ψin K (view K P e) (κ K P) P.p4 ≡ part i1 (Ψ_from K.m K.N) (4 * K.N + 16)
      Ψ_one = ap (λ (v : View). Ψin K v (κ K P) P.p4) v_is ∙ sym W1.Ψ

      Ψ_two : Ψin K (view K R e) (κ K R) R.p4 ≡ part i2 (Ψ_from K.m K.N) (4 * K.N + 16)
      Ψ_two = ap (λ (v : View). Ψin K v (κ K R) R.p4) w_is ∙ sym W2.Ψ

  -- The list comes to what its first spot gives, or else to what follows.
  pub first_read : 2 ≤ K.N → (x : Reading)
      → first_different (suc e) (comparisons K P R e) x
      ≡ read_at l1 l2 i1 i2 (suc e) x (first_spot (on_all K.m K.N K.M (kept_count K) h1 h2) l1 l2 i1 i2)
  first_read two x =
      ap (λ (a : List Comparison). first_different (suc e) a x) (laid two)
      ∙ reads_first l1 l2 i1 i2 (on_all K.m K.N K.M (kept_count K) h1 h2) (suc e) x
