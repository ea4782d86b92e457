-- Document 02, U1: the sheet of a shift, as bytes of ASCII, from the judge's numbers for run01, run02 and so on; 0 is accepted.
-- Assumes nothing.
use Rattle.std.specs.Prelude.{ℕ, suc, ◌+◌, ◌/◌, ◌%◌, List, [], ◌∷◌, ◌++◌, ltb, eqb, length, get_or}
use Rattle.lists.specs.Index.{cat, count}
use Rattle.line.specs.Line.{decimal, line_of}

-- the name of run i, counted from 1: `run` and two digits
unfoldable pub name_of : ℕ → List ℕ
name_of i = 114 ∷ 117 ∷ 110 ∷ (48 + i / 10) ∷ (48 + i % 10) ∷ []

-- its line: the name, a space and the judge's line
unfoldable pub run_line : ℕ → ℕ → List ℕ
run_line i n = name_of i ++ 32 ∷ line_of n

-- `accepted `
abbrev pub accepted_word : List ℕ
accepted_word = 97 ∷ 99 ∷ 99 ∷ 101 ∷ 112 ∷ 116 ∷ 101 ∷ 100 ∷ 32 ∷ []

-- ` refused `
abbrev pub refused_word : List ℕ
refused_word = 32 ∷ 114 ∷ 101 ∷ 102 ∷ 117 ∷ 115 ∷ 101 ∷ 100 ∷ 32 ∷ []

-- ` total `
abbrev pub total_word : List ℕ
total_word = 32 ∷ 116 ∷ 111 ∷ 116 ∷ 97 ∷ 108 ∷ 32 ∷ []

-- the last line, from the digits of its three numbers
unfoldable pub totals : (a r t : List ℕ) → List ℕ
totals a r t = (accepted_word ++ a) ++ (refused_word ++ r) ++ (total_word ++ t)

-- how many numbers are 0, and how many are not
abbrev pub accepted_in : List ℕ → ℕ
accepted_in ns = count (length ns) (λ j. eqb (get_or ns j 0) 0)

abbrev pub refused_in : List ℕ → ℕ
refused_in ns = count (length ns) (λ j. ltb 0 (get_or ns j 0))

-- a line for each run, and the last line, which counts them
unfoldable pub sheet_of : List ℕ → List ℕ
sheet_of ns =
    cat (length ns) (λ j. run_line (suc j) (get_or ns j 0))
    ++ totals (decimal 2 (accepted_in ns)) (decimal 2 (refused_in ns)) (decimal 2 (length ns))
    ++ 10 ∷ []
