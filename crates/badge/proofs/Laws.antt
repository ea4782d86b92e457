-- Lists of the greatest lengths are always enough.
-- Assumes nothing.
use Prim.Native.Nat.{ℕ, ◌*◌, ◌≤◌}
use mathlib.Core.Path.{◌≡◌, refl, sym, ◌∙◌, ap}
use mathlib.Core.Bool.{Bool, true, false, not}
use mathlib.Core.List.{List, [], ◌∷◌, ◌++◌}
use native.Mathlib.Nat.{mul-le-mul}
use native.Mathlib.Omega.{arith}
use borrow.Author.Tests.{le-leb}
use lib.Dec.{leb}
use Rattle.lists.specs.Check.{Check, ◌⇒◌, Verdict, accepted, refused, first}
use Rattle.lists.specs.TestLaws.{or_else, not_of_true, first_miss, first-append, each_holds}
use Rattle.protocol.specs.Key.{entries, key_of, key_checks}
use Rattle.protocol.specs.Judge.{run_checks, judge, judge_lent, lent_enough}
use Rattle.key.specs.Limits.{Limits}
use Rattle.key.specs.KeyLaws.{limits_accepted, entries_most}

module _ (work entry : ℕ) (work_long : 16384 ≤ work) (entry-long : 4128 ≤ entry) where
  enough : (key : List ℕ) → first (key_checks (key_of key) key) ≡ accepted → lent_enough (key_of key) work entry ≡ true
  unfolding lent_enough
  enough key good =
      let K = key_of key in
      let within : Limits K.q K.n K.m K.N K.M K.τ = limits_accepted key good in
      each_holds (leb (4 * K.m * K.N) work ∷ leb (entries K) entry ∷ []) (
        le-leb (4 * K.m * K.N) work
            (omega (
              arith,
              mul-le-mul {n₁ = 4 * K.m} {m₁ = K.N} {n₂ = 512} {m₂ = 32} (omega (arith, within.m_most)) within.parties_most,
            )),
        (le-leb (entries K) entry (omega (arith, entries_most K.n K.m within.n_most within.m_most)), tt),
      )

-- a test that never refuses where the first list accepts can be left out
without : (a b : List Check) (t : Bool) (n : ℕ) → (first a ≡ accepted → t ≡ false) → first (a ++ (t ⇒ n) ∷ b) ≡ first (a ++ b)
unfolding or_else
without a b t n h = first-append a ((t ⇒ n) ∷ b) ∙ (go (first a) refl ∙ sym (first-append a b))
  where
    go : (v : Verdict) → first a ≡ v → or_else (first a) (first ((t ⇒ n) ∷ b)) ≡ or_else (first a) (first b)
    go accepted e = ap (or_else (first a)) (first_miss t n b (h e))
    go (refused k) e = ap (λ (v : Verdict). or_else v (first ((t ⇒ n) ∷ b))) e ∙ sym (ap (λ (v : Verdict). or_else v (first b)) e)

-- the judge over lists of at least the greatest lengths is the judge
pub judged : (key x : List ℕ) (work entry : ℕ) → 16384 ≤ work → 4128 ≤ entry → judge_lent key work entry x ≡ judge key x
unfolding judge_lent judge
judged key x work entry work_long entry-long =
    without (key_checks (key_of key) key) (run_checks (key_of key) x) (not (lent_enough (key_of key) work entry)) 11
    (λ e. not_of_true (enough work entry work_long entry-long key e))
