-- The pair reader's answer for C as eight 32-bit numbers: the values of the finding and 0.
-- Assumes nothing.
use Rattle.std.specs.Prelude.{ℕ, ◌<◌, List, [], ◌∷◌, ◌++◌, drop}
use Rattle.protocol.specs.Pair.{Said, refused_as, found_as, value_list}

abbrev pub row : (kind e i size k b d : ℕ) → List ℕ
row kind e i size k b d = value_list kind e i size k b d ++ 0 ∷ []

-- what a call leaves in the list for the answer; a refusal leaves it as it was
abbrev pub row_after : Said → List ℕ → List ℕ
row_after (refused_as n) before = before
row_after (found_as n values) before = (values ++ 0 ∷ []) ++ drop 8 before

-- each number of a list takes at most 32 bits
abbrev pub Words : List ℕ → Type 0
Words [] = Unit {0}
Words (x ∷ l) = (x < 4294967296) × Words l

-- each value of an answer does
abbrev pub Narrow : Said → Type 0
Narrow (refused_as n) = Unit {0}
Narrow (found_as n values) = Words values
