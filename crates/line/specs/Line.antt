-- Document 01, Where each number is given: the line that the program prints, as bytes of ASCII.
-- Assumes nothing.
use Rattle.std.specs.Prelude.{ℕ, zero, suc, ◌+◌, ◌/◌, ◌%◌, List, [], ◌∷◌, ◌++◌, ltb, eqb}
use Rattle.lists.specs.Index.{pick}

-- the decimal digits of a number that has at most f of them
unfoldable pub decimal : ℕ → ℕ → List ℕ
decimal zero n = []
decimal (suc f) n = pick (ltb n 10) ((48 + n) ∷ []) (decimal f (n / 10) ++ (48 + n % 10) ∷ [])

-- `accepted`, or `refused ` and the number, a number of 32 bits; then the line's end
unfoldable pub line_of : ℕ → List ℕ
line_of n =
    pick (eqb n 0)
    (97 ∷ 99 ∷ 99 ∷ 101 ∷ 112 ∷ 116 ∷ 101 ∷ 100 ∷ 10 ∷ [])
    (114 ∷ 101 ∷ 102 ∷ 117 ∷ 115 ∷ 101 ∷ 100 ∷ 32 ∷ (decimal 10 n ++ 10 ∷ []))
