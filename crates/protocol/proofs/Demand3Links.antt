-- The pair reader's comparisons: wherever the two inputs are the first that differ, they are bytes, have one hash and one length, and are at
-- most 16400 long.
-- Assumes nothing.
use Prim.Native.Nat.{ℕ, zero, suc, ◌+◌, ◌*◌, ◌-◌, ◌≤◌, ◌<◌}
use mathlib.Core.Path.{◌≡◌, refl, sym, ap, ap₂, ◌∙◌, subst}
use mathlib.Core.Logic.{inl, inr}
use mathlib.Core.Bool.{Bool, true, false, not}
use mathlib.Core.List.{List, [], ◌∷◌, ◌++◌}
use native.Mathlib.Nat.{mul-le-mul}
use native.Mathlib.Omega.{arith}
use lib.Dec.{eqb}
use lib.ListN.{length}
use borrow.Author.Tests.{eqb-false, ne_eqb, not-true}
use Rattle.lists.specs.Index.{pick, cat, count, same, part}
use Rattle.lists.specs.ByteList.{Bytes, bytes_take}
use Rattle.lists.specs.TestLaws.{pick_false, count-le, same_eq, same_differ, holds-each}
use Rattle.lists.specs.Inj.{cat_inj}
use Rattle.numbers.proofs.Inverse.{parties_least, parties_most}
use Rattle.sha_core.specs.Digest.{sha256-length}
use Rattle.protocol.specs.Key.{Key, kept_count}
use Rattle.protocol.specs.Shares.{H, input, View, is_hidden, is_n, Γin, Γ, hin, Ωin, Πin, Ψin}
use Rattle.protocol.specs.Prover.{opened, place, kept, hΓin, hπin, hψin}
use Rattle.protocol.specs.Transcript.{Parts}
use Rattle.protocol.specs.Judge.{hidden, hides_n, κ, Ω_at, hπ_at, kept_view, view}
use Rattle.protocol.specs.Pair.{Comparison, compare, Reading, collision, first_different, open_in_both, comparisons}
use Rattle.protocol.specs.Accepts.{GoodKey, GoodParts, GoodValues}
use Rattle.protocol.specs.Demand3.{First, Equal}
use Rattle.protocol.proofs.Demand3Bytes.{ByteView, hin_bytes, Γin_bytes, Ωin_bytes, Πin_bytes, Ψin_bytes, hΓin_bytes, hπin_bytes, hψin_bytes, kept-bytes}
use Rattle.protocol.proofs.Demand3Lengths.{Sized, Γ_length, hin_length, Γin_length, Ωin_length, Πin_length, Ψin_length, hΓin_length, hπin_length, hψin_length, kept-sized, view_kept}

-- ---- lists of comparisons

-- What the two inputs of a comparison have in common, whether or not they are equal.
pub record Link (c : Comparison) : Type 0 where
  pub bytes_one : Bytes c.one
  pub bytes_two : Bytes c.two
  pub one_hash : H c.one ≡ H c.two
  pub one-length : length c.one ≡ length c.two
  pub short : length c.one ≤ 16400

-- Each comparison is a link, if those before it have equal inputs.
abbrev pub Chain : List Comparison → Type 0
Chain [] = Unit {0}
Chain (c ∷ l) = Link c × (c.one ≡ c.two → Chain l)

abbrev pub Links : List Comparison → Type 0
Links [] = Unit {0}
Links (c ∷ l) = Link c × Links l

links_append : (a b : List Comparison) → Links a → Links b → Links (a ++ b)
links_append [] b h k = k
links_append (c ∷ a) b h k = (h.0, links_append a b h.1 k)

links_cat : (n : ℕ) (f : ℕ → List Comparison) → ((i : ℕ) → i < n → Links (f i)) → Links (cat n f)
unfolding cat
links_cat zero f h = tt
links_cat (suc n) f h = links_append (cat n f) (f n) (links_cat n f (λ i l. h i (omega arith))) (h n (omega arith))

links_chain : (a b : List Comparison) → Links a → Chain b → Chain (a ++ b)
links_chain [] b h k = k
links_chain (c ∷ a) b h k = (h.0, λ e. links_chain a b h.1 k)

pub equal_right : (a b : List Comparison) → Equal (a ++ b) → Equal b
equal_right [] b h = h
equal_right (c ∷ a) b h = equal_right a b h.1

-- The first that differ, or else what follows.
pub first_true : (Q : Reading → Type 0) (e : ℕ) (l : List Comparison) (r : Reading)
    → ((c : Comparison) → (c.one ≡ c.two → ⊥) → Link c → First c l → Q (collision c.kind e c.party c.one c.two))
    → Chain l → (Equal l → Q r) → Q (first_different e l r)
unfolding first_different
first_true Q e [] r hit h else = else tt
first_true Q e (c ∷ l) r hit h else =
    go (same c.one c.two) refl
    (λ q. first_true Q e l r (λ c n k f. hit c n k (inr (q, f))) (h.1 q) (λ a. else (q, a)))
  where
    go : (t : Bool) → same c.one c.two ≡ t → (c.one ≡ c.two → Q (first_different e l r))
        → Q (pick t (first_different e l r) (collision c.kind e c.party c.one c.two))
    go true k next = next (same_eq _ _ k)
    go false k next = hit c (same_differ _ _ k) h.0 (inl (refl, same_differ _ _ k))

-- ---- two accepted transcripts with equal parts 1 to 5
pub record Front (P R : Parts) : Type 0 where
  pub same1 : P.p1 ≡ R.p1
  pub same2 : P.p2 ≡ R.p2
  pub same3 : P.p3 ≡ R.p3
  pub same4 : P.p4 ≡ R.p4
  pub same5 : P.p5 ≡ R.p5

pub record Good (K : Key) (P : Parts) : Type 0 where
  pub parts : GoodParts K P
  pub values : GoodValues K P
  pub bytes : Bytes P.p7

pub record Both (K : Key) (P R : Parts) : Type 0 where
  pub key : GoodKey K
  pub p : Good K P
  pub r : Good K R
  pub front : Front P R

module _ (K : Key) (P R : Parts) (a : Both K P R) where
  hΓ_link : Link (compare 1 0 (hΓin K (view K P)) (hΓin K (view K R)))
  hΓ_link =
      record {
        bytes_one = hΓin_bytes K (view K P);
        bytes_two = hΓin_bytes K (view K R);
        one_hash = sym a.p.values.hΓ ∙ a.front.same1 ∙ a.r.values.hΓ;
        one-length = hΓin_length K (view K P) ∙ sym (hΓin_length K (view K R));
        short = omega (arith, hΓin_length K (view K P), a.key.executions_most);
      }

  opened-same : (e : ℕ) → opened P.p2 e ≡ opened R.p2 e
  opened-same e = ap (λ (E : List ℕ). opened E e) a.front.same2

  -- how many are kept
  kept_same : count K.M (λ e. not (opened P.p2 e)) ≡ count K.M (λ e. not (opened R.p2 e))
  kept_same = ap (λ (E : List ℕ). count K.M (λ e. not (opened E e))) a.front.same2

  hπ_link : Link (compare 5 0 (hπin K (view K P) P.p2 (κ K P)) (hπin K (view K R) R.p2 (κ K R)))
  unfolding hπ_at
  hπ_link =
      record {
        bytes_one = hπin_bytes K (view K P) P.p2 (κ K P);
        bytes_two = hπin_bytes K (view K R) R.p2 (κ K R);
        one_hash = sym a.p.values.hπ ∙ ap (λ (x : List ℕ). part x (16 * K.τ + 32 * kept_count K) 32) a.front.same3 ∙ a.r.values.hπ;
        one-length =
            hπin_length K (view K P) P.p2 (κ K P) ∙ ap (λ (n : ℕ). 32 * n) kept_same ∙ sym (hπin_length K (view K R) R.p2 (κ K R));
        short = omega (arith, hπin_length K (view K P) P.p2 (κ K P), count-le K.M (λ e. not (opened P.p2 e)), a.key.executions_most);
      }

  hψ_link : Link (compare 7 0 (hψin K (view K P) P.p2 (κ K P) P.p4) (hψin K (view K R) R.p2 (κ K R) R.p4))
  hψ_link =
      record {
        bytes_one = hψin_bytes K (view K P) P.p2 (κ K P) P.p4;
        bytes_two = hψin_bytes K (view K R) R.p2 (κ K R) R.p4;
        one_hash = sym a.p.values.hψ ∙ a.front.same5 ∙ a.r.values.hψ;
        one-length =
            hψin_length K (view K P) P.p2 (κ K P) P.p4 ∙ ap (λ (n : ℕ). 32 * n) kept_same
            ∙ sym (hψin_length K (view K R) R.p2 (κ K R) R.p4);
        short = omega (arith, hψin_length K (view K P) P.p2 (κ K P) P.p4, count-le K.M (λ e. not (opened P.p2 e)), a.key.executions_most);
      }

  -- Equal lists of the kept: equal items of a kept execution.
  kept_inj : (f g : ℕ → List ℕ) → kept K P.p2 (λ e. H (f e)) ≡ kept K R.p2 (λ e. H (g e))
      → (e : ℕ) → e < K.M → opened P.p2 e ≡ false → H (f e) ≡ H (g e)
  unfolding kept
  kept_inj f g q e h c =
      sym (pick_false (opened P.p2 e) [] (H (f e)) c)
      ∙ cat_inj K.M (λ e. pick (opened P.p2 e) [] (H (f e))) (λ e. pick (opened R.p2 e) [] (H (g e)))
      (λ j l. lengths j (opened P.p2 j) (opened R.p2 j) (opened-same j)) q e h
      ∙ pick_false (opened R.p2 e) [] (H (g e)) (sym (opened-same e) ∙ c)
    where
      lengths : (j : ℕ) (t z : Bool) → t ≡ z → length (pick t [] (H (f j))) ≡ length (pick z [] (H (g j)))
      lengths j t true q = rw q
      lengths j t false q = rw q (sha256-length (f j) ∙ sym (sha256-length (g j)))

  -- ---- a kept execution
  module _ (e : ℕ) (within : e < K.M) (closed : opened P.p2 e ≡ false) where
    pub closed' : opened R.p2 e ≡ false
    closed' = sym (opened-same e) ∙ closed

    pub v_sized : Sized K (view K P e)
    v_sized = subst (Sized K) (sym (view_kept K P a.p.parts e within closed)) (kept-sized K P a.p.parts e within closed)

    pub w_sized : Sized K (view K R e)
    w_sized = subst (Sized K) (sym (view_kept K R a.r.parts e within closed')) (kept-sized K R a.r.parts e within closed')

    -- the views' seeds and Γ are bytes, and so is document 01's seed K
    v_bytes : ByteView (view K P e)
    v_bytes = subst ByteView (sym (view_kept K P a.p.parts e within closed)) (kept-bytes K P a.p.bytes e)

    w_bytes : ByteView (view K R e)
    w_bytes = subst ByteView (sym (view_kept K R a.r.parts e within closed')) (kept-bytes K R a.r.bytes e)

    κ_bytes : (Q : Parts) → Bytes Q.p7 → Bytes (κ K Q)
    κ_bytes Q b = bytes_take 16 Q.p7 b

    pub v_hid : (view K P e).hid ≡ hidden K P e
    unfolding kept_view
    v_hid = ap (λ (v : View). v.hid) (view_kept K P a.p.parts e within closed)

    pub w_hid : (view K R e).hid ≡ hidden K R e
    unfolding kept_view
    w_hid = ap (λ (v : View). v.hid) (view_kept K R a.r.parts e within closed')

    h_link : hΓin K (view K P) ≡ hΓin K (view K R) → Link (compare 2 0 (hin K (view K P e)) (hin K (view K R e)))
    unfolding hΓin input
    h_link q =
        record {
          bytes_one = hin_bytes K (view K P e) v_bytes;
          bytes_two = hin_bytes K (view K R e) w_bytes;
          one_hash =
              cat_inj K.M (λ e. H (hin K (view K P e))) (λ e. H (hin K (view K R e)))
              (λ j l. sha256-length (hin K (view K P j)) ∙ sym (sha256-length (hin K (view K R j)))) q e within;
          one-length = hin_length K (view K P e) v_sized ∙ sym (hin_length K (view K R e) w_sized);
          short = omega (arith, hin_length K (view K P e) v_sized, parties_most a.key.N);
        }

    -- party i is open in both
    open_v : (i : ℕ) → open_in_both K P R e i ≡ true → is_hidden K (view K P e) i ≡ false
    unfolding open_in_both
    open_v i q = not-true _ (holds-each _ q).0

    open_w : (i : ℕ) → open_in_both K P R e i ≡ true → is_hidden K (view K R e) i ≡ false
    unfolding open_in_both
    open_w i q = not-true _ (holds-each _ q).1.0

    Γ_link : hin K (view K P e) ≡ hin K (view K R e) → (i : ℕ) → i < K.N → open_in_both K P R e i ≡ true
        → Link (compare 3 (suc i) (Γin K (view K P e) i) (Γin K (view K R e) i))
    unfolding hin input Γ
    Γ_link q i h z =
        record {
          bytes_one = Γin_bytes K (view K P e) v_bytes i;
          bytes_two = Γin_bytes K (view K R e) w_bytes i;
          one_hash =
              sym (pick_false (is_hidden K (view K P e) i) (view K P e).Γh (H (Γin K (view K P e) i)) (open_v i z))
              ∙ cat_inj K.N (Γ K (view K P e)) (Γ K (view K R e))
              (λ j l. Γ_length K (view K P e) v_sized j ∙ sym (Γ_length K (view K R e) w_sized j)) q i h
              ∙ pick_false (is_hidden K (view K R e) i) (view K R e).Γh (H (Γin K (view K R e) i)) (open_w i z);
          one-length = Γin_length K (view K P e) v_sized i ∙ sym (Γin_length K (view K R e) w_sized i);
          short = omega (arith, Γin_length K (view K P e) v_sized i, bound (is_n K i), a.key.m_most);
        }
      where
        bound : (t : Bool) → pick t (4 * K.m) 0 ≤ 4 * K.m
        bound true = omega arith
        bound false = omega arith

    Γ_links : hin K (view K P e) ≡ hin K (view K R e) → (i : ℕ) → i < K.N
        → Links (pick (open_in_both K P R e i) (compare 3 (suc i) (Γin K (view K P e) i) (Γin K (view K R e) i) ∷ []) [])
    Γ_links q i h = go (open_in_both K P R e i) refl
      where
        go : (t : Bool) → open_in_both K P R e i ≡ t
            → Links (pick t (compare 3 (suc i) (Γin K (view K P e) i) (Γin K (view K R e) i) ∷ []) [])
        go true z = (Γ_link q i h z, tt)
        go false z = tt

    -- N is open where it is not hidden
    open_n : (Q : Parts) (h : ℕ) → h ≡ hidden K Q e → eqb (K.N - 1) h ≡ false → hides_n K Q e ≡ false
    open_n Q h z q =
        ne_eqb (suc (hidden K Q e)) K.N (λ w. eqb-false (K.N - 1) h q (omega (arith, parties_least a.key.N)))

    Ω_link : open_in_both K P R e (K.N - 1) ≡ true → Link (compare 4 K.N (Ωin K (view K P e)) (Ωin K (view K R e)))
    unfolding Ω_at
    Ω_link z =
        record {
          bytes_one = Ωin_bytes K (view K P e) v_bytes;
          bytes_two = Ωin_bytes K (view K R e) w_bytes;
          one_hash =
              ap (λ (v : View). H (Ωin K v)) (view_kept K P a.p.parts e within closed)
              ∙ sym (a.p.values.Ω e within closed (open_n P (view K P e).hid v_hid (open_v (K.N - 1) z)))
              ∙ ap₂ (λ (x E : List ℕ). part x (16 * K.τ + 32 * place E e) 32) a.front.same3 a.front.same2
              ∙ a.r.values.Ω e within closed' (open_n R (view K R e).hid w_hid (open_w (K.N - 1) z))
              ∙ sym (ap (λ (v : View). H (Ωin K v)) (view_kept K R a.r.parts e within closed'));
          one-length = Ωin_length K (view K P e) ∙ sym (Ωin_length K (view K R e));
          short = omega (arith, Ωin_length K (view K P e), a.key.m_most);
        }

    Ω_links : Links (pick (open_in_both K P R e (K.N - 1)) (compare 4 K.N (Ωin K (view K P e)) (Ωin K (view K R e)) ∷ []) [])
    Ω_links = go (open_in_both K P R e (K.N - 1)) refl
      where
        go : (t : Bool) → open_in_both K P R e (K.N - 1) ≡ t
            → Links (pick t (compare 4 K.N (Ωin K (view K P e)) (Ωin K (view K R e)) ∷ []) [])
        go true z = (Ω_link z, tt)
        go false z = tt

    Π_link : hπin K (view K P) P.p2 (κ K P) ≡ hπin K (view K R) R.p2 (κ K R)
        → Link (compare 6 0 (Πin K (view K P e) (κ K P)) (Πin K (view K R e) (κ K R)))
    unfolding hπin input
    Π_link q =
        record {
          bytes_one = Πin_bytes K (view K P e) (κ K P) (κ_bytes P a.p.bytes);
          bytes_two = Πin_bytes K (view K R e) (κ K R) (κ_bytes R a.r.bytes);
          one_hash = kept_inj (λ e. Πin K (view K P e) (κ K P)) (λ e. Πin K (view K R e) (κ K R)) q e within closed;
          one-length = Πin_length K (view K P e) (κ K P) ∙ sym (Πin_length K (view K R e) (κ K R));
          short =
              omega (
                arith,
                Πin_length K (view K P e) (κ K P),
                mul-le-mul {n₁ = K.m} {m₁ = 4 * K.N} {n₂ = 128} {m₂ = 128} a.key.m_most (omega (arith, parties_most a.key.N)),
              );
        }

    Ψ_link : hψin K (view K P) P.p2 (κ K P) P.p4 ≡ hψin K (view K R) R.p2 (κ K R) R.p4
        → Link (compare 8 0 (Ψin K (view K P e) (κ K P) P.p4) (Ψin K (view K R e) (κ K R) R.p4))
    unfolding hψin input
    Ψ_link q =
        record {
          bytes_one = Ψin_bytes K (view K P e) (κ K P) P.p4 (κ_bytes P a.p.bytes);
          bytes_two = Ψin_bytes K (view K R e) (κ K R) R.p4 (κ_bytes R a.r.bytes);
          one_hash = kept_inj (λ e. Ψin K (view K P e) (κ K P) P.p4) (λ e. Ψin K (view K R e) (κ K R) R.p4) q e within closed;
          one-length = Ψin_length K (view K P e) (κ K P) P.p4 ∙ sym (Ψin_length K (view K R e) (κ K R) R.p4);
          short = omega (arith, Ψin_length K (view K P e) (κ K P) P.p4, parties_most a.key.N);
        }

    -- The comparisons in their order: those of Γ(i), of Ω, and from hπ on.
    abbrev Γs : ℕ → List Comparison
    Γs i = pick (open_in_both K P R e i) (compare 3 (suc i) (Γin K (view K P e) i) (Γin K (view K R e) i) ∷ []) []

    abbrev Ωs : List Comparison
    Ωs = pick (open_in_both K P R e (K.N - 1)) (compare 4 K.N (Ωin K (view K P e)) (Ωin K (view K R e)) ∷ []) []

    abbrev pub last : List Comparison
    last =
        compare 5 0 (hπin K (view K P) P.p2 (κ K P)) (hπin K (view K R) R.p2 (κ K R))
        ∷ compare 6 0 (Πin K (view K P e) (κ K P)) (Πin K (view K R e) (κ K R))
        ∷ compare 7 0 (hψin K (view K P) P.p2 (κ K P) P.p4) (hψin K (view K R) R.p2 (κ K R) R.p4)
        ∷ compare 8 0 (Ψin K (view K P e) (κ K P) P.p4) (Ψin K (view K R e) (κ K R) R.p4)
        ∷ []

    pub chain : Chain (comparisons K P R e)
    unfolding comparisons
    chain = (
      hΓ_link,
      λ q1. (
        h_link q1,
        λ q2.
            links_chain (cat K.N Γs ++ Ωs) last (links_append (cat K.N Γs) Ωs (links_cat K.N Γs (Γ_links q2)) Ω_links)
            (hπ_link, λ q5. (Π_link q5, λ q6. (hψ_link, λ q7. (Ψ_link q7, λ q8. tt)))),
      ),
    )

    -- All are equal: so are the inputs of Π and of Ψ.
    pub all_equal : Equal (comparisons K P R e) → Equal last
    unfolding comparisons
    all_equal q = equal_right (cat K.N Γs ++ Ωs) last q.1.1
