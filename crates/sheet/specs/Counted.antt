-- Document 02, U1: each number of the last line equals the number of such lines above it. All of it is read from the text that is printed.
-- Assumes nothing.
use Rattle.std.specs.Prelude.{ℕ, suc, ◌+◌, ◌-◌, ◌*◌, ◌<◌, ◌≡◌, Bool, true, false, not, List, [], ◌∷◌, ◌++◌, eqb, ltb, length, get_or, take, drop}
use Rattle.lists.specs.Index.{pick, every, same}
use Rattle.sheet.specs.Sheet.{refused_word, totals}

-- ---- lines

-- a byte in front of the first line
unfoldable pub longer : ℕ → List (List ℕ) → List (List ℕ)
longer c [] = (c ∷ []) ∷ []
longer c (l ∷ ls) = (c ∷ l) ∷ ls

-- the lines of a text, each up to a byte 10; what stands behind the last one is a line too
unfoldable pub lines_of : List ℕ → List (List ℕ)
lines_of [] = []
lines_of (c ∷ x) = pick (eqb c 10) ([] ∷ lines_of x) (longer c (lines_of x))

-- of how many lines p holds
unfoldable pub how_many : (List ℕ → Bool) → List (List ℕ) → ℕ
how_many p [] = 0
how_many p (l ∷ ls) = pick (p l) 1 0 + how_many p ls

-- after the file's name, which has five bytes, the line says ` accepted`
unfoldable pub says_accepted : List ℕ → Bool
says_accepted l = same (drop 5 l) (32 ∷ 97 ∷ 99 ∷ 99 ∷ 101 ∷ 112 ∷ 116 ∷ 101 ∷ 100 ∷ [])

-- after the file's name it goes on with ` refused `
unfoldable pub says_refused : List ℕ → Bool
says_refused l = same (take 9 (drop 5 l)) refused_word

-- ---- numbers

-- the number that digits stand for, behind those that stand for v
unfoldable pub value_of : ℕ → List ℕ → ℕ
value_of v [] = v
value_of v (c ∷ x) = value_of (10 * v + (c - 48)) x

-- one of `0` to `9`
unfoldable pub is_digit : ℕ → Bool
is_digit c = pick (ltb 47 c) (ltb c 58) false

-- a text of n digits
unfoldable pub are_digits : ℕ → List ℕ → Bool
are_digits n x = pick (eqb (length x) n) (every n (λ j. is_digit (get_or x j 0))) false

-- digits, without a leading zero: one, or more of which the first is not `0`
unfoldable pub is_count : List ℕ → Bool
is_count x = pick (are_digits (length x) x) (pick (eqb (length x) 1) true (ltb 48 (get_or x 0 48))) false

-- x says n, without a leading zero
pub record Says (n : ℕ) (x : List ℕ) : Type 0 where
  pub count : is_count x ≡ true
  pub value : value_of 0 x ≡ n

-- x is `run` and two digits that say i
pub record Names (i : ℕ) (x : List ℕ) : Type 0 where
  pub run : take 3 x ≡ 114 ∷ 117 ∷ 110 ∷ []
  pub digits : are_digits 2 (drop 3 x) ≡ true
  pub value : value_of 0 (drop 3 x) ≡ i

-- ---- the sheet

-- A text of lines, one for each run in order, each of which says one of the two, and a last line `accepted A refused R total T`, where A, R
-- and T say how many lines above it say accepted, how many say refused and how many there are.
pub record Counted (x : List ℕ) : Type 0 where
  pub above : List (List ℕ)
  pub A : List ℕ
  pub R : List ℕ
  pub T : List ℕ
  pub lines : lines_of x ≡ above ++ totals A R T ∷ []
  pub accepted : Says (how_many says_accepted above) A
  pub refused : Says (how_many says_refused above) R
  pub total : Says (length above) T
  pub names : (j : ℕ) → j < length above → Names (suc j) (take 5 (get_or above j []))
  pub verdicts : (j : ℕ) → j < length above → says_refused (get_or above j []) ≡ not (says_accepted (get_or above j []))
