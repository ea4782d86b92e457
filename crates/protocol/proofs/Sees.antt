-- A view that hides one party of a whole execution and was given that party's values has the same hash inputs and outputs.
-- Assumes nothing.
use Prim.Native.Nat.{ℕ, suc, ◌+◌, ◌*◌, ◌-◌, ◌%◌, ◌<◌}
use mathlib.Core.Path.{◌≡◌, refl, sym, ◌∙◌, ap, ap₂}
use mathlib.Core.Bool.{Bool, true, false}
use mathlib.Core.List.{List, [], ◌++◌}
use native.Mathlib.Omega.{arith}
use borrow.Author.Tests.{eqb-true, eqb-false}
use Rattle.lists.specs.Index.{pick}
use Rattle.lists.specs.Bytes.{nums}
use Rattle.lists.specs.CatLaws.{cat_ext, nums_ext}
use Rattle.numbers.specs.Mod.{sub}
use Rattle.numbers.specs.Sum.{sum}
use Rattle.numbers.proofs.Sum.{sum_ext}
use Rattle.numbers.specs.Output.{out}
use Rattle.numbers.proofs.Output.{out_ext}
use Rattle.streams.specs.Streams.{block}
use Rattle.protocol.specs.Key.{Key}
use Rattle.protocol.specs.Shares.{H, input, View, is_n, is_hidden, share, coefficient, b, d, s, α, αsum, Γin, Γ, hin, Ωin, Πin, run, o, Ψin}
use Rattle.protocol.proofs.HonestSum.{α_open, Γ_open, o_open}

-- w hides one party of the whole execution p.
pub record Sees (K : Key) (L : List ℕ) (p w : View) : Type 0 where
  pub ex : w.ex ≡ p.ex
  pub whole : p.hid ≡ K.N
  pub inside : w.hid < K.N
  pub seed : (i : ℕ) → i < K.N → (i ≡ w.hid → ⊥) → w.seed i ≡ p.seed i
  pub Γh : w.Γh ≡ Γ K p w.hid
  pub αh : (k : ℕ) → k < K.m → w.αh k ≡ α K p k w.hid
  pub oh : w.oh ≡ o K p L w.hid
  pub d_n : (suc w.hid ≡ K.N → ⊥) → (k : ℕ) → k < K.m → w.d_n k ≡ p.d_n k
  pub s_n : (suc w.hid ≡ K.N → ⊥) → (k : ℕ) → k < K.m → w.s_n k ≡ p.s_n k

module _ (K : Key) (L : List ℕ) (p w : View) (S : Sees K L p w) where
  -- Party i is the hidden one, whose value is given, or its value is that of p.
  split : {A : Type 0} (i : ℕ) (x z : A) (y : ℕ → A) → x ≡ y w.hid → ((i ≡ w.hid → ⊥) → z ≡ y i) → pick (is_hidden K w i) x z ≡ y i
  split {A} i x z y given same = go (is_hidden K w i) refl
    where
      go : (h : Bool) → is_hidden K w i ≡ h → pick h x z ≡ y i
      go true h = let e : i ≡ w.hid = eqb-true i w.hid h in rw e given
      go false h = same (eqb-false i w.hid h)

  -- A value of party N, or one that is drawn.
  last : {A : Type 0} (i : ℕ) (x y z r : A) → ((suc i ≡ K.N) → x ≡ y) → z ≡ r → pick (is_n K i) x z ≡ pick (is_n K i) y r
  last {A} i x y z r given same = go (is_n K i) refl
    where
      go : (h : Bool) → is_n K i ≡ h → pick h x z ≡ pick h y r
      go true h = given (eqb-true (suc i) K.N h)
      go false h = same

  not_last : (i : ℕ) → (i ≡ w.hid → ⊥) → suc i ≡ K.N → suc w.hid ≡ K.N → ⊥
  not_last i other a c = other (omega arith)

  module _ (i : ℕ) (h : i < K.N) (other : i ≡ w.hid → ⊥) where
    sees_b : (k : ℕ) → b K w k i ≡ b K p k i
    unfolding b
    sees_b k = ap (λ x. share K x i k) (S.seed i h other)

    sees_d : (k : ℕ) → k < K.m → d K w k i ≡ d K p k i
    unfolding d
    sees_d k y =
        last i _ _ _ _ (λ a. S.d_n (not_last i other a) k y) (ap (λ x. share K x i (K.m + k)) (S.seed i h other))

    pub sees_s : (k : ℕ) → k < K.m → s K w k i ≡ s K p k i
    unfolding s
    sees_s k y =
        last i _ _ _ _ (λ a. S.s_n (not_last i other a) k y) (ap (λ x. share K x i (2 * K.m + k)) (S.seed i h other))

    pub sees_Γin : Γin K w i ≡ Γin K p i
    unfolding Γin
    sees_Γin =
        ap₂ (λ x y. input 3 (suc x) (suc i) y) S.ex
        (ap₂ (λ x y. x ++ pick (is_n K i) (nums K.m w.d_n) [] ++ block y 0) (S.seed i h other) (S.seed i h other)
        ∙ ap (λ x. p.seed i ++ x ++ block (p.seed i) 0)
        (last i _ _ _ _ (λ a. nums_ext K.m (λ k y. S.d_n (not_last i other a) k y)) refl))

  pub sees_Γ : (i : ℕ) → i < K.N → Γ K w i ≡ Γ K p i
  unfolding Γ
  sees_Γ i h =
      split i w.Γh (H (Γin K w i)) (Γ K p) S.Γh
      (λ other. ap H (sees_Γin i h other) ∙ sym (Γ_open K p S.whole i h))

  pub sees_α : (k i : ℕ) → k < K.m → i < K.N → α K w k i ≡ α K p k i
  unfolding α
  sees_α k i y h =
      split i (w.αh k) (sub K.q (s K w k i) (b K w k i)) (α K p k) (S.αh k y)
      (λ other. ap₂ (sub K.q) (sees_s i h other k y) (sees_b i h other k) ∙ sym (α_open K p S.whole k i h))

  pub sees_αsum : (k : ℕ) → k < K.m → αsum K w k ≡ αsum K p k
  unfolding αsum
  sees_αsum k y = ap (λ x. x % K.q) (sum_ext K.N (λ i h. sees_α k i y h))

  pub sees_o : (i : ℕ) → i < K.N → o K w L i ≡ o K p L i
  unfolding o run
  sees_o i h =
      split i w.oh (out K.q (run K w L) (αsum K w) i) (o K p L) S.oh
      (λ other.
      out_ext K.q (run K w L) (run K p L) (αsum K w) (αsum K p) i
      (record {
        N = refl;
        n = refl;
        m = refl;
        A = λ l k a c. refl;
        t = λ l a. refl;
        β = λ l a. ap (λ x. coefficient K L x l) S.ex;
        γ = λ k a. ap (λ x. coefficient K L x (K.n + k)) S.ex;
        s = λ k y. sees_s i h other k y;
        b = λ k y. sees_b i h other k;
        d = λ k y. sees_d i h other k y;
      })
      sees_αsum
      ∙ sym (o_open K p S.whole L i h))

  -- The hash inputs.
  pub sees_hin : hin K w ≡ hin K p
  unfolding hin
  sees_hin = ap₂ (λ x y. input 2 (suc x) 0 y) S.ex (cat_ext K.N sees_Γ)

  pub sees_Ωin : (suc w.hid ≡ K.N → ⊥) → Ωin K w ≡ Ωin K p
  unfolding Ωin
  sees_Ωin other =
      ap₂ (λ x y. input 4 (suc x) K.N y) S.ex
      (ap₂ (λ x y. x ++ block y 1) (nums_ext K.m (λ k y. S.s_n other k y))
      (S.seed (K.N - 1) (omega (arith, S.inside)) (λ e. other (omega (arith, S.inside)))))

  pub sees_Πin : (κ : List ℕ) → Πin K w κ ≡ Πin K p κ
  unfolding Πin
  sees_Πin κ =
      ap₂ (λ x y. input 6 (suc x) 0 (y ++ block κ (2 * x))) S.ex
      (cat_ext K.m (λ k y. nums_ext K.N (λ i h. sees_α k i y h)))

  pub sees_Ψin : (κ : List ℕ) → Ψin K w κ L ≡ Ψin K p κ L
  unfolding Ψin
  sees_Ψin κ =
      ap₂ (λ x y. input 8 (suc x) 0 (y ++ block κ (2 * x + 1))) S.ex
      (nums_ext K.N (λ i h. sees_o i h))

  -- The sum of all o.
  pub sees_sum : sum K.N (o K w L) ≡ sum K.N (o K p L)
  sees_sum = sum_ext K.N (λ i h. sees_o i h)
