-- Steps of the proofs of this crate. Assumes nothing.
use Prim.Native.Nat.{ℕ, zero, suc, ◌+◌, ◌≤◌, ◌<◌}
use Prim.{tt}
use mathlib.Core.Path.{◌≡◌, refl, sym, ap, ◌∙◌}
use mathlib.Core.Bool.{Bool, true, false, not, cond}
use mathlib.Core.List.{List}
use native.Mathlib.Numerals.{add-one}
use native.Mathlib.Omega.{arith}
use lib.Dec.{eqb}
use Rattle.std.specs.Prelude.{Option, Some, None, IfSome, MatchOption}
use Rattle.std.specs.List.{count_by, range_with_len}
use Rattle.std.proofs.lemmas.List.{map-id}
use Rattle.std.proofs.lemmas.List.FromFn.{sum_by-map-range_with_len_more}
use Rattle.lists.specs.Index.{pick, count}
use Rattle.lists.specs.TestLaws.{count_zero, count_suc, least-found, least-none}
use Rattle.protocol.specs.Key.{Key}
use Rattle.protocol.specs.Prover.{opened, place, hidden_of}
use Rattle.protocol.specs.Transcript.{Parts}
use Rattle.protocol.specs.Judge.{hidden}
use Rattle.protocol.specs.Pair.{execution}
use Rattle.key.specs.declared.sizes.Numbers.{Numbers}
use Rattle.key.specs.Numbers.{Of}
use Rattle.fork.specs.Fork.{differs}

-- ---- the kept

-- `(0..n).filter(p).count()` and `count`
count_below : (p : ℕ → Bool) (n : ℕ) → count_by p (range_with_len 0 n) ≡ count n p
count_below p zero = sym (count_zero p)
count_below p (suc n) =
    ap (λ (i : ℕ). count_by p (range_with_len 0 i)) (sym (add-one n))
    ∙ more
    ∙ ap (λ (i : ℕ). i + cond (p n) 1 0) (count_below p n)
    ∙ ap (λ (i : ℕ). count n p + i) (one_if (p n))
    ∙ sym (count_suc n p)
  where
    one_if : (b : Bool) → ◌≡◌ {A = ℕ} (cond b 1 0) (pick b 1 0)
    one_if true = refl
    one_if false = refl

    more : count_by p (range_with_len 0 (n + 1)) ≡ count_by p (range_with_len 0 n) + cond (p n) 1 0
    more = rw (map-id (range_with_len 0 (n + 1)), map-id (range_with_len 0 n)) at (sum_by-map-range_with_len_more (λ j. cond (p j) 1 0) (λ j. j) 0 n n (omega arith))

pub counted_below : (E : List ℕ) (n : ℕ) → count_by (λ j. not (opened E j)) (range_with_len 0 n) ≡ place E n
unfolding place
counted_below E n = count_below (λ j. not (opened E j)) n

-- ---- the execution

-- what `find` answers of the first n executions
abbrev pub First : (n : ℕ) (E h1 h2 : List ℕ) → Option ℕ → Type 0
First n E h1 h2 r =
    MatchOption r ((j : ℕ) → 0 ≤ j → j < n → differs E h1 h2 j ≡ false)
    (λ e. (0 ≤ e) × (e < n) × (differs E h1 h2 e ≡ true) × ((j : ℕ) → 0 ≤ j → j < e → differs E h1 h2 j ≡ false))

pub first_bound : (k : Numbers) (E h1 h2 : List ℕ) (r : Option ℕ) → First k.executions E h1 h2 r → IfSome r (λ e. e < k.executions)
first_bound k E h1 h2 None h = tt
first_bound k E h1 h2 (Some e) h = h.1

module _ (k : Numbers) (E h1 h2 : List ℕ) (K : Key) (P R : Parts) (of : Of k K) (p2 : P.p2 ≡ E) (p6 : P.p6 ≡ h1) (r2 : R.p2 ≡ E) (r6 : R.p6 ≡ h2) where
  test_is : (j : ℕ) → pick (opened P.p2 j) false (not (eqb (hidden K P j) (hidden K R j))) ≡ differs E h1 h2 j
  unfolding differs hidden
  test_is j = λ i. pick (opened (p2 i) j) false (not (eqb (hidden_of (p2 i) (p6 i) j) (hidden_of (r2 i) (r6 i) j)))

  pub first_fork : (r : Option ℕ) → First k.executions E h1 h2 r → MatchOption r (execution K P R ≡ k.executions) (λ e. e ≡ execution K P R)
  unfolding execution
  first_fork None before =
      least-none K.M _ (λ j l. test_is j ∙ before j (omega arith) (omega (arith, of.executions_is))) ∙ sym of.executions_is
  first_fork (Some e) h =
      sym (least-found K.M _ e (omega (arith, of.executions_is, h.1)) (test_is e ∙ h.2) (λ j l. test_is j ∙ h.3 j (omega arith) l))
