-- Two transcripts whose headers are good, and the execution in which they fork. Executions and parties count from 0.
-- Assumes nothing.
use Rattle.std.specs.Prelude.{ℕ, ◌+◌, ◌*◌, ◌-◌, ◌≤◌, ◌<◌, ◌≡◌, Bool, true, false, not, List, [], ◌∷◌, leb, eqb, length, get_or}
use Rattle.std.proofs.Common.{ap, ◌∙◌}
use Rattle.std.proofs.lemmas.Bool.{not-false}
use Rattle.lists.specs.Index.{pick, every, holds}
use Rattle.lists.specs.Bytes.{num}
use Rattle.lists.specs.Check.{accepted, first}
use Rattle.lists.specs.TestLaws.{clean}
use Rattle.numbers.specs.Sum.{sum}
use Rattle.protocol.specs.Key.{Key}
use Rattle.protocol.specs.Prover.{opened, hidden_of}
use Rattle.protocol.specs.Transcript.{Parts, sizes, good_header}
use Rattle.protocol.specs.Judge.{hidden, reply_size, run_checks}
use Rattle.key.specs.declared.sizes.Numbers.{Numbers}
use Rattle.key.specs.Numbers.{Of, Alike, alike_of}

-- the header of x is good for the numbers k
pub record Headed (k : Numbers) (x : List ℕ) : Type 0 where
  pub good : (K : Key) → Of k K → good_header K x ≡ true

-- Keys of the same numbers find the same headers good, whatever the numbers are.
pub header_alike : (J K : Key) (x : List ℕ) → Alike J K → good_header K x ≡ true → good_header J x ≡ true
unfolding good_header sizes
header_alike J K x same e = ap test sized ∙ e
  where
    test : List ℕ → Bool
    test s =
        holds
        (leb 56 (length x)
        ∷ every 6 (λ i. eqb (num x (2 * i + 1)) (get_or s i 0))
        ∷ every 7 (λ i. eqb (num x (2 * i)) (56 + sum i (λ j. get_or s j 0)))
        ∷ eqb (num x 12 + num x 13) (length x)
        ∷ [])

    sized : sizes J ≡ sizes K
    sized =
        let a : J.M ≡ K.M = same.executions_same in
        let b : J.τ ≡ K.τ = same.τ_same in
        λ i. 32 ∷ b i ∷ (16 * b i + 32 * (a i - b i) + 32) ∷ 16 ∷ 32 ∷ (a i - b i) ∷ []

-- A header is good for the numbers of a key that finds it so.
pub headed : (k : Numbers) (K : Key) (x : List ℕ) → Of k K → good_header K x ≡ true → Headed k x
headed k K x of e = record { good = λ J is. header_alike J K x (alike_of is of) e }

-- The header of an accepted file.
pub accepted_headed : (k : Numbers) (K : Key) (x : List ℕ) → Of k K → first (run_checks K x) ≡ accepted → Headed k x
unfolding run_checks
accepted_headed k K x of e = headed k K x of (not-false _ (clean (run_checks K x) e).0)

-- The header of a file that a key accepts is good for any key of the same numbers.
pub accepted_alike : (J K : Key) (x : List ℕ) → Alike J K → first (run_checks K x) ≡ accepted → good_header J x ≡ true
unfolding run_checks
accepted_alike J K x same e = header_alike J K x same (not-false _ (clean (run_checks K x) e).0)

-- execution e is kept and hides different parties by two hidden lists
unfoldable pub differs : List ℕ → List ℕ → List ℕ → ℕ → Bool
differs E h1 h2 e = pick (opened E e) false (not (eqb (hidden_of E h1 e) (hidden_of E h2 e)))

-- P and R fork in execution e: it is kept in both, the hidden parties are two of the N, and both replies lie within part 7
pub record Forking (K : Key) (P R : Parts) (e : ℕ) : Type 0 where
  pub within : e < K.M
  pub kept-one : opened P.p2 e ≡ false
  pub kept_two : opened R.p2 e ≡ false
  pub differ : hidden K P e ≡ hidden K R e → ⊥
  pub below_one : hidden K P e < K.N
  pub below_two : hidden K R e < K.N
  pub reply-one : 16 + sum e (reply_size K P) + reply_size K P e ≤ length P.p7
  pub reply_two : 16 + sum e (reply_size K R) + reply_size K R e ≤ length R.p7
