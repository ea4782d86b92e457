-- Two views of one execution that have equal inputs of Π and of Ψ: each party's values from a view in which it is open make one run, whose
-- α(k) and o(i) are those of the views. So the sum of its outputs is 0.
-- Assumes nothing.
use Prim.Native.Nat.{ℕ, ◌+◌, ◌*◌, ◌%◌, ◌<◌}
use mathlib.Core.Path.{◌≡◌, refl, sym, ap, ap₂, ◌∙◌}
use mathlib.Core.Logic.{◌⊎◌, ⊎_elim}
use mathlib.Core.Bool.{false}
use mathlib.Core.List.{List}
use native.Mathlib.Omega.{arith}
use lib.ListN.{length}
use Rattle.lists.specs.Index.{cat}
use Rattle.lists.specs.Bytes.{nums}
use Rattle.lists.specs.TestLaws.{pick_false}
use Rattle.lists.specs.CatLaws.{cat-lengths, nums-length}
use Rattle.lists.specs.Inj.{append_left, cat_inj, nums_inj}
use Rattle.numbers.specs.Mod.{Cong, sub}
use Rattle.numbers.proofs.Mod.{cong_sym, cong_trans, cong_eq, cong_mod, cong_mul}
use Rattle.numbers.specs.Sum.{sum}
use Rattle.numbers.proofs.Sum.{sum_ext}
use Rattle.numbers.proofs.Inverse.{q_positive, q_most}
use Rattle.numbers.specs.Output.{Run, join, alpha_of, out, u_of, v_of, combined}
use Rattle.numbers.proofs.Output.{out_ext, squares, u_cong, v_cong}
use Rattle.streams.specs.Streams.{block}
use Rattle.protocol.specs.Key.{Key, A, t}
use Rattle.protocol.specs.Shares.{input, View, is_hidden, coefficient, s, b, d, α, αsum, Πin, run, o, Ψin}
use Rattle.protocol.specs.Accepts.{GoodKey}
use Rattle.protocol.proofs.Demand3Lengths.{Sized, α_lt, o_lt}

-- What is known of the two views.
pub record Forks (K : Key) (L : List ℕ) (v w : View) : Type 0 where
  pub execution : v.ex ≡ w.ex
  pub v_sized : Sized K v
  pub w_sized : Sized K w
  pub zero_sum : sum K.N (o K v L) % K.q ≡ 0
  pub κ₁ : List ℕ
  pub κ₂ : List ℕ
  pub same_Π : Πin K v κ₁ ≡ Πin K w κ₂
  pub same_Ψ : Ψin K v κ₁ L ≡ Ψin K w κ₂ L

-- u is one of the two views, and party i is open in it.
pub record Source (K : Key) (v w : View) (i : ℕ) (u : View) : Type 0 where
  pub one : ((u ≡ v) × (is_hidden K v i ≡ false)) ⊎ ((u ≡ w) × (is_hidden K w i ≡ false))

module _ (K : Key) (key : GoodKey K) (L : List ℕ) (v w : View) (f : Forks K L v w) (from : ℕ → View)
    (shows : (i : ℕ) → i < K.N → Source K v w i (from i)) where
  positive : 0 < K.q
  positive = q_positive key.q

  -- a number below q takes four bytes
  four_bytes : {x : ℕ} → x < K.q → x < 4294967296
  four_bytes h = omega (arith, q_most key.q)

  α_same : (k : ℕ) → k < K.m → (i : ℕ) → i < K.N → α K v k i ≡ α K w k i
  unfolding Πin input
  α_same k h i l =
      nums_inj K.N (α K v k) (α K w k)
      (λ j z. four_bytes (α_lt K v positive f.v_sized k h j)) (λ j z. four_bytes (α_lt K w positive f.w_sized k h j))
      (cat_inj K.m (λ k. nums K.N (α K v k)) (λ k. nums K.N (α K w k)) long
      (append_left (cat K.m (λ k. nums K.N (α K v k))) (block f.κ₁ (2 * v.ex)) (cat K.m (λ k. nums K.N (α K w k)))
      (block f.κ₂ (2 * w.ex)) (cat-lengths K.m (λ k. nums K.N (α K v k)) (λ k. nums K.N (α K w k)) long) f.same_Π) k h)
      i l
    where
      long : (k : ℕ) → k < K.m → length (nums K.N (α K v k)) ≡ length (nums K.N (α K w k))
      long k h = nums-length K.N (α K v k) ∙ sym (nums-length K.N (α K w k))

  o_same : (i : ℕ) → i < K.N → o K v L i ≡ o K w L i
  unfolding Ψin input
  o_same i l =
      nums_inj K.N (o K v L) (o K w L)
      (λ j z. four_bytes (o_lt K v positive f.v_sized L j)) (λ j z. four_bytes (o_lt K w positive f.w_sized L j))
      (append_left (nums K.N (o K v L)) (block f.κ₁ (2 * v.ex + 1)) (nums K.N (o K w L)) (block f.κ₂ (2 * w.ex + 1))
      (nums-length K.N (o K v L) ∙ sym (nums-length K.N (o K w L))) f.same_Ψ)
      i l

  abbrev pub joined_run : Run
  joined_run =
      record {
        N = K.N;
        n = K.n;
        m = K.m;
        A = A K;
        t = t K;
        β = λ l. coefficient K L v.ex l;
        γ = λ k. coefficient K L v.ex (K.n + k);
        s = λ k i. s K (from i) k i;
        b = λ k i. b K (from i) k i;
        d = λ k i. d K (from i) k i;
      }

  -- An open party's α and o, from its values.
  α_open : (u : View) (k i : ℕ) → is_hidden K u i ≡ false → sub K.q (s K u k i) (b K u k i) ≡ α K u k i
  unfolding α
  α_open u k i h = sym (pick_false (is_hidden K u i) (u.αh k) (sub K.q (s K u k i) (b K u k i)) h)

  α_joined : (k : ℕ) → k < K.m → (i : ℕ) → i < K.N → sub K.q (s K (from i) k i) (b K (from i) k i) ≡ α K v k i
  α_joined k h i l =
      ⊎_elim
      (λ z. ap (λ (u : View). sub K.q (s K u k i) (b K u k i)) z.0 ∙ α_open v k i z.1)
      (λ z. ap (λ (u : View). sub K.q (s K u k i) (b K u k i)) z.0 ∙ α_open w k i z.1 ∙ sym (α_same k h i l))
      (shows i l).one

  αsum_joined : (k : ℕ) → k < K.m → alpha_of K.q joined_run k ≡ αsum K v k
  unfolding alpha_of αsum
  αsum_joined k h = ap (λ (x : ℕ). x % K.q) (sum_ext K.N (λ i l. α_joined k h i l))

  αsum_same : (k : ℕ) → k < K.m → αsum K v k ≡ αsum K w k
  unfolding αsum
  αsum_same k h = ap (λ (x : ℕ). x % K.q) (sum_ext K.N (λ i l. α_same k h i l))

  out_open : (u : View) (i : ℕ) → from i ≡ u → v.ex ≡ u.ex → is_hidden K u i ≡ false → ((k : ℕ) → k < K.m → αsum K v k ≡ αsum K u k)
      → out K.q joined_run (αsum K v) i ≡ o K u L i
  unfolding o run
  out_open u i e x h a =
      out_ext K.q joined_run (run K u L) (αsum K v) (αsum K u) i
      (record {
        N = refl;
        n = refl;
        m = refl;
        A = λ l k y z. refl;
        t = λ l y. refl;
        β = λ l y. ap (λ (z : ℕ). coefficient K L z l) x;
        γ = λ k y. ap (λ (z : ℕ). coefficient K L z (K.n + k)) x;
        s = λ k y. ap (λ (z : View). s K z k i) e;
        b = λ k y. ap (λ (z : View). b K z k i) e;
        d = λ k y. ap (λ (z : View). d K z k i) e;
      })
      a
      ∙ sym (pick_false (is_hidden K u i) u.oh (out K.q (run K u L) (αsum K u) i) h)

  out-joined : (i : ℕ) → i < K.N → out K.q joined_run (αsum K v) i ≡ o K v L i
  out-joined i l =
      ⊎_elim
      (λ z. out_open v i z.0 refl z.1 (λ k h. refl))
      (λ z. out_open w i z.0 f.execution z.1 αsum_same ∙ sym (o_same i l))
      (shows i l).one

  zero_joined : sum K.N (out K.q joined_run (αsum K v)) % K.q ≡ 0
  zero_joined = ap (λ (x : ℕ). x % K.q) (sum_ext K.N (λ i l. out-joined i l)) ∙ f.zero_sum

  -- ---- the joined s, b, d, reduced
  abbrev pub whole : (Key → View → ℕ → ℕ → ℕ) → ℕ → ℕ
  whole g k = sum K.N (λ i. g K (from i) k i) % K.q

  -- Where d(k) = b(k)² for all k, the combination of the errors is 0.
  pub combination_zero : ((k : ℕ) → k < K.m → Cong K.q (whole d k) (whole b k * whole b k))
      → (sum K.n (λ l. coefficient K L v.ex l * u_of K.q K.m (A K) (t K) (whole s) l)
      + sum K.m (λ k. coefficient K L v.ex (K.n + k) * v_of K.q (whole s) k)
      ) % K.q ≡ 0
  unfolding join combined
  combination_zero h =
      ap (λ (x : ℕ). x % K.q)
      (ap₂ (λ (x y : ℕ). x + y)
      (sum_ext K.n (λ l z. ap (λ (x : ℕ). coefficient K L v.ex l * x) (u_cong positive K.m (A K) (t K) (λ k y. cong_mod K.q _) l)))
      (sum_ext K.m (λ k z. ap (λ (x : ℕ). coefficient K L v.ex (K.n + k) * x) (v_cong positive (whole s) _ k (cong_mod K.q _)))))
      ∙ squares joined_run (αsum K v) key.q key.N (λ k y. cong_eq (sym (αsum_joined k y)))
      (record { square = λ k y. cong_trans (cong_sym (cong_mod K.q _)) (cong_trans (h k y) (cong_mul (cong_mod K.q _) (cong_mod K.q _))) })
      zero_joined
