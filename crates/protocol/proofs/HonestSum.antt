-- The prover's own execution: nobody is hidden, the shares add up, and with a solution the sum of all o is 0.
-- Assumes nothing.
use Prim.Native.Nat.{ℕ, suc, ◌-◌, ◌%◌, ◌<◌}
use mathlib.Core.Path.{◌≡◌, refl, sym, ◌∙◌, ap}
use mathlib.Core.Bool.{false}
use mathlib.Core.List.{List}
use native.Mathlib.Omega.{arith}
use borrow.Author.Tests.{ne_eqb, eq-eqb}
use lib.Dec.{eqb}
use Rattle.lists.specs.Index.{pick}
use Rattle.numbers.specs.Mod.{Cong, sub}
use Rattle.numbers.proofs.Mod.{cong_refl, cong_trans, cong_eq, cong_mul, sub-lt}
use Rattle.numbers.specs.Sum.{sum}
use Rattle.numbers.proofs.Sum.{sum_ext, sum_cong, last_share}
use Rattle.numbers.specs.Inverse.{Member, qs, Ns}
use Rattle.numbers.proofs.Inverse.{q_positive, parties_least}
use Rattle.numbers.specs.Output.{out, alpha_of, join, Solves}
use Rattle.numbers.proofs.Output.{out-lt, honest}
use Rattle.protocol.specs.Key.{Key, A, t}
use Rattle.protocol.specs.Shares.{sq, View, is_hidden, b, d, s, α, αsum, Γin, Γ, H, run, o, dealt}

-- A view in which nobody is hidden.
module _ (K : Key) (v : View) (whole : v.hid ≡ K.N) where
  nobody : (i : ℕ) → i < K.N → is_hidden K v i ≡ false
  nobody i h = ne_eqb i v.hid (λ e. let z : ⊥ = omega arith in z)

  pub α_open : (k i : ℕ) → i < K.N → α K v k i ≡ sub K.q (s K v k i) (b K v k i)
  unfolding α
  α_open k i h = rw (nobody i h)

  pub Γ_open : (i : ℕ) → i < K.N → Γ K v i ≡ H (Γin K v i)
  unfolding Γ
  Γ_open i h = rw (nobody i h)

  pub o_open : (L : List ℕ) (i : ℕ) → i < K.N → o K v L i ≡ out K.q (run K v L) (αsum K v) i
  unfolding o
  o_open L i h = rw (nobody i h)

  pub α_lt : 0 < K.q → (k i : ℕ) → i < K.N → α K v k i < K.q
  α_lt p k i h = rw (α_open k i h) (sub-lt p _ _)

  pub o_lt : 0 < K.q → (L : List ℕ) (i : ℕ) → i < K.N → o K v L i < K.q
  o_lt p L i h = rw (o_open L i h) (out-lt p _ _ i)

  -- α(k) is the sum that the formula for o takes.
  pub αsum_is : (L : List ℕ) (k : ℕ) → αsum K v k ≡ alpha_of K.q (run K v L) k
  unfolding αsum alpha_of run
  αsum_is L k = ap (λ x. x % K.q) (sum_ext K.N (λ i h. α_open k i h))

-- The last of N shares, f and last being the others' rule and party N's.
last_of : (n N q x last : ℕ) (f : ℕ → ℕ) → suc n ≡ N → 0 < q → last ≡ sub q x (sum n f)
    → Cong q (sum N (λ i. pick (eqb (suc i) N) last (f i))) x
last_of n N q x last f e p h =
    rw (← e)
    (last_share p n x (λ i. pick (eqb (suc i) (suc n)) last (f i))
    (rw (eq-eqb (suc n) (suc n) refl)
    (h ∙ ap (sub q x) (sum_ext n (λ i y. sym (rest i y))))))
  where
    rest : (i : ℕ) → i < n → pick (eqb (suc i) (suc n)) last (f i) ≡ f i
    rest i y = rw (ne_eqb (suc i) (suc n) (λ z. let no : ⊥ = omega arith in no))

-- In the prover's execution nobody is hidden.
pub dealt-whole : (K : Key) (e : ℕ) (master : List ℕ) (x : ℕ → ℕ) → (dealt K e master x).hid ≡ K.N
unfolding dealt
dealt-whole K e master x = refl

module _ (K : Key) (e : ℕ) (master : List ℕ) (x : ℕ → ℕ) (hq : Member K.q qs) (hN : Member K.N Ns) where
  pub dealt_d_n_lt : (k : ℕ) → (dealt K e master x).d_n k < K.q
  unfolding dealt
  dealt_d_n_lt k = sub-lt (q_positive hq) _ _

  pub dealt_s_n_lt : (k : ℕ) → (dealt K e master x).s_n k < K.q
  unfolding dealt
  dealt_s_n_lt k = sub-lt (q_positive hq) _ _

  -- The shares of s add up to the secret, those of d to the squares.
  pub dealt_s : (k : ℕ) → Cong K.q (join K.N (s K (dealt K e master x)) k) (x k)
  unfolding join s dealt
  dealt_s k = last_of (K.N - 1) K.N K.q (x k) _ _ (omega (arith, parties_least hN)) (q_positive hq) refl

  pub dealt_d : (k : ℕ) → Cong K.q (join K.N (d K (dealt K e master x)) k) (sq (join K.N (b K (dealt K e master x)) k))
  unfolding join b d dealt
  dealt_d k = last_of (K.N - 1) K.N K.q _ _ _ (omega (arith, parties_least hN)) (q_positive hq) refl

  -- For a solution the outputs add up to 0.
  pub dealt_zero : (L : List ℕ) → Solves K.q K.n K.m (A K) (t K) x
      → sum K.N (o K (dealt K e master x) L) % K.q ≡ 0
  unfolding run
  dealt_zero L Z =
      ap (λ y. y % K.q) (sum_ext K.N (λ i h. o_open K (dealt K e master x) (dealt-whole K e master x) L i h))
      ∙ honest (run K (dealt K e master x) L) (αsum K (dealt K e master x)) hq hN
      (λ k h. cong_eq (αsum_is K (dealt K e master x) (dealt-whole K e master x) L k))
      (record { square = λ k h. dealt_d k })
      (record {
        target = λ l h. cong_trans (sum_cong K.m (λ k y. cong_mul cong_refl (dealt_s k))) (Z.target l h);
        binary = λ k h. rw (dealt_s k).same (Z.binary k h);
      })
