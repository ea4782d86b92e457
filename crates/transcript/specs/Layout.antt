-- Where the seven parts stand in a file whose header is accepted.
-- Assumes nothing.
use Rattle.std.specs.Prelude.{ℕ, suc, ◌+◌, ◌*◌, ◌-◌, ◌≤◌, ◌<◌, ◌≡◌, true, List, [], ◌∷◌, leb, take, drop}
use Rattle.std.proofs.Common.{ap, ◌∙◌, length-drop, length-take-le}
use Rattle.std.proofs.Math.Path.{subst}
use native.Mathlib.Omega.{arith}
use Rattle.std.proofs.Math.Dec.{eqb}
use Rattle.std.proofs.Math.ListN.{length, get_or}
use borrow.Author.Tests.{eqb-true}
use Rattle.lists.specs.Index.{every}
use Rattle.lists.specs.Bytes.{num}
use Rattle.lists.specs.TestLaws.{every-at, Holds, holds-each}
use Rattle.numbers.specs.Sum.{sum}
use Rattle.numbers.proofs.Sum.{sum_suc, sum_zero, sum_grows}
use Rattle.protocol.specs.Key.{Key}
use Rattle.protocol.specs.Transcript.{part_at, sizes, good_header}

-- Document 01, Transcript: the parts follow without gaps from byte 56. Part i, counted from 0, begins here.
unfoldable pub start_of : Key → ℕ → ℕ
start_of K i = 56 + sum i (λ j. get_or (sizes K) j 0)

pub start_first : (K : Key) → start_of K 0 ≡ 56
unfolding start_of
start_first K = ap (λ (s : ℕ). 56 + s) (sum_zero (λ j. get_or (sizes K) j 0))

pub start-next : (K : Key) (i : ℕ) → start_of K (suc i) ≡ start_of K i + get_or (sizes K) i 0
unfolding start_of
start-next K i = omega (arith, sum_suc i (λ j. get_or (sizes K) j 0))

-- The header's facts.
module _ (K : Key) (x : List ℕ) (good : good_header K x ≡ true) where
  tests : Holds
      (leb 56 (length x) ∷ every 6 (λ i. eqb (num x (2 * i + 1)) (get_or (sizes K) i 0))
      ∷ every 7 (λ i. eqb (num x (2 * i)) (56 + sum i (λ j. get_or (sizes K) j 0))) ∷ eqb (num x 12 + num x 13) (length x) ∷ [])
  unfolding good_header
  tests = holds-each _ good

  pub size_is : (i : ℕ) → i < 6 → num x (2 * i + 1) ≡ get_or (sizes K) i 0
  size_is i h = eqb-true _ _ (every-at 6 (λ i. eqb (num x (2 * i + 1)) (get_or (sizes K) i 0)) tests.1.0 i h)

  pub start_is : (i : ℕ) → i < 7 → num x (2 * i) ≡ start_of K i
  unfolding start_of
  start_is i h = eqb-true _ _ (every-at 7 (λ i. eqb (num x (2 * i)) (56 + sum i (λ j. get_or (sizes K) j 0))) tests.1.1.0 i h)

  -- The last part goes to the file's end.
  pub end_is : start_of K 6 + num x 13 ≡ length x
  end_is = omega (arith, eqb-true (num x 12 + num x 13) (length x) tests.1.1.1.0, start_is 6 (omega arith))

  pub start-within : (i : ℕ) → i ≤ 6 → start_of K i ≤ length x
  unfolding start_of
  start-within i h =
      let rest : i + (6 - i) ≡ 6 = omega arith in
      omega (arith, end_is, subst (λ (n : ℕ). sum i (λ j. get_or (sizes K) j 0) ≤ sum n (λ j. get_or (sizes K) j 0)) rest (sum_grows (λ j. get_or (sizes K) j 0) i (6 - i)))

  -- Parts 1 to 6, each from its start to the next one's, and part 7.
  pub part_is : (i : ℕ) → i < 6 → part_at x i ≡ take (start_of K (suc i) - start_of K i) (drop (start_of K i) x)
  unfolding part_at
  part_is i h =
      let wide : start_of K (suc i) - start_of K i ≡ num x (2 * i + 1) = omega (arith, start-next K i, size_is i h) in
      rw (start_is i (omega arith), wide)

  pub last_is : part_at x 6 ≡ take (length x - start_of K 6) (drop (start_of K 6) x)
  unfolding part_at
  last_is =
      let wide : length x - start_of K 6 ≡ num x 13 = omega (arith, end_is) in
      rw (start_is 6 (omega arith), wide)

  pub part-long : (i : ℕ) → i < 6 → length (part_at x i) ≡ get_or (sizes K) i 0
  part-long i h =
      ap (λ (l : List ℕ). length l) (part_is i h)
      ∙ length-take-le (start_of K (suc i) - start_of K i) (drop (start_of K i) x)
      (simp length-drop (omega (arith, start-within (suc i) h)))
      ∙ (omega (arith, start-next K i))

  pub last-long : length (part_at x 6) ≡ length x - start_of K 6
  last-long =
      ap (λ (l : List ℕ). length l) last_is
      ∙ length-take-le (length x - start_of K 6) (drop (start_of K 6) x) (simp length-drop (omega arith))
