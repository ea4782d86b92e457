-- What lists that hold an execution give whoever hashes it, in the sizes of the code.
-- Assumes nothing.
use Prim.Native.Nat.{ℕ, suc, ◌+◌, ◌*◌, ◌-◌, ◌<◌, ◌≤◌}
use mathlib.Core.Path.{◌≡◌, sym, ◌∙◌, ap, ap₂, subst}
use mathlib.Core.Bool.{true}
use mathlib.Core.List.{List}
use native.Mathlib.Omega.{arith}
use borrow.Author.Tests.{eq-eqb, ltb-true}
use lib.Dec.{eqb, ltb}
use lib.ListN.{get_or}
use Rattle.lists.specs.Index.{pick, part, every}
use Rattle.lists.specs.Bytes.{num}
use Rattle.lists.specs.TestLaws.{every-at, pick_true}
use Rattle.protocol.specs.Key.{Key, depth}
use Rattle.protocol.specs.Shares.{View, share, d, s}
use Rattle.protocol.specs.Transcript.{Parts}
use Rattle.protocol.specs.Judge.{hidden, given_count, reply_at, given, kept_view}
use Rattle.execution.specs.Shown.{Sized, Holds, Shown, place_of}
use Rattle.execution.specs.Prepared.{Given, last_count, given_of}

-- Party N's d and s are the view's own.
pub d_last : (K : Key) (v : View) (k i : ℕ) → suc i ≡ K.N → d K v k i ≡ v.d_n k
unfolding d
d_last K v k i e = pick_true (eqb (suc i) K.N) _ _ (eq-eqb (suc i) K.N e)

pub s_last : (K : Key) (v : View) (k i : ℕ) → suc i ≡ K.N → s K v k i ≡ v.s_n k
unfolding s
s_last K v k i e = pick_true (eqb (suc i) K.N) _ _ (eq-eqb (suc i) K.N e)

-- what holds of a key's own numbers holds of those that equal them
pub from_key : {q m N : ℕ} {K : Key} → Sized q m N K → (P : ℕ → ℕ → ℕ → Type 0) → P K.q K.m K.N → P q m N
from_key {q} {m} {N} {K} sized P h =
    subst (λ (x : ℕ). P x m N) sized.modulus
    (subst (λ (x : ℕ). P K.q x N) sized.columns (subst (λ (x : ℕ). P K.q K.m x) sized.parties h))

-- ---- any execution
module _ {q m N hid : ℕ} {K : Key} {v : View} {leaves work : List ℕ} (sized : Sized q m N K) (hides : v.hid ≡ hid) (so : Shown K v leaves work) where
  pub shown_ds : Holds m N hid m work (d K v)
  shown_ds = subst (λ (x : ℕ). Holds m N x m work (d K v)) hides (from_key sized (λ q m N. Holds m N v.hid m work (d K v)) so.ds)

  pub shown_ss : Holds m N hid (2 * m) work (s K v)
  shown_ss = subst (λ (x : ℕ). Holds m N x (2 * m) work (s K v)) hides (from_key sized (λ q m N. Holds m N v.hid (2 * m) work (s K v)) so.ss)

  -- party N, unless it is hidden
  module _ (pos : 1 ≤ N) (other : suc hid ≡ N → ⊥) where
    last_open : N - 1 ≡ hid → ⊥
    last_open z = other (omega arith)

    last_is : suc (N - 1) ≡ K.N
    last_is = let e : suc (N - 1) ≡ N = omega arith in e ∙ sym sized.parties

    last-pick : (x y : ℕ) → pick (eqb (suc (N - 1)) K.N) x y ≡ x
    last-pick x y = rw (eq-eqb (suc (N - 1)) K.N last_is)

    pub shown_d_n : (k : ℕ) → k < m → v.d_n k ≡ get_or work (place_of m (N - 1) (m + k)) 0
    unfolding d
    shown_d_n k h =
        sym (shown_ds.at k (N - 1) h (omega arith) last_open ∙ last-pick (v.d_n k) (share K (v.seed (N - 1)) (N - 1) (K.m + k)))

    pub shown_s_n : (k : ℕ) → k < m → v.s_n k ≡ get_or work (place_of m (N - 1) (2 * m + k)) 0
    unfolding s
    shown_s_n k h =
        sym (shown_ss.at k (N - 1) h (omega arith) last_open ∙ last-pick (v.s_n k) (share K (v.seed (N - 1)) (N - 1) (2 * K.m + k)))

    pub shown_seed : part leaves (16 * (N - 1)) 16 ≡ v.seed (N - 1)
    shown_seed =
        so.seeds.at (N - 1) (omega (arith, sized.parties)) (λ z. last_open (z ∙ hides))

-- ---- an execution that was dealt

-- ---- a kept execution
module _ (K : Key) (P : Parts) (e : ℕ) where
  -- how many numbers its reply holds
  pub given_count_lem : {q m N hid : ℕ} → Sized q m N K → hidden K P e ≡ hid → given_count K P e ≡ m + 1 + last_count m N hid
  unfolding given_count
  given_count_lem {q} {m} {N} {hid} sized hides =
      ap (λ h. K.m + 1 + last_count K.m K.N h) hides ∙ ap₂ (λ x y. x + 1 + last_count x y hid) sized.columns sized.parties

  -- what its reply gives of the hidden party, and that every number is below q where the judge says so
  module _ {D : ℕ} {reply : List ℕ} (deep : depth K ≡ D) (at : reply_at K P e ≡ reply) where
    pub kept_Γ : (kept_view K P e).Γh ≡ part reply (16 * D) 32
    unfolding kept_view
    kept_Γ = ap₂ (λ x y. part x (16 * y) 32) at deep

    given_at : (j : ℕ) → given K P e j ≡ num (given_of D reply) j
    unfolding given
    given_at j = ap₂ (λ x y. num (given_of y x) j) at deep

    pub kept_α : (k : ℕ) → (kept_view K P e).αh k ≡ num (given_of D reply) k
    unfolding kept_view
    kept_α k = given_at k

    pub kept_o : {q m N : ℕ} → Sized q m N K → (kept_view K P e).oh ≡ num (given_of D reply) m
    unfolding kept_view
    kept_o {q} {m} {N} sized = given_at K.m ∙ ap (num (given_of D reply)) sized.columns

    pub given_good : {q m N hid : ℕ} → Sized q m N K → hidden K P e ≡ hid → every (given_count K P e) (λ j. ltb (given K P e j) K.q) ≡ true
        → Given q m N D hid reply
    given_good {q} {m} {N} {hid} sized hides good =
        record {
          below = λ j h.
              subst (λ (x : ℕ). x < q) (given_at j)
              (subst (λ (x : ℕ). given K P e j < x) sized.modulus
              (ltb-true _ _ (every-at _ _ good j (subst (λ (x : ℕ). j < x) (sym (given_count_lem sized hides)) h))));
        }
