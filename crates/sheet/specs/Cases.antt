-- Document 02, U1: its example, and the sheet of no run, as bytes of ASCII.
-- Assumes nothing.
use Rattle.std.specs.Prelude.{ℕ, List, [], ◌∷◌, ◌++◌}

-- a good key and one empty file: `run01 refused 12`, `accepted 0 refused 1 total 1`
unfoldable pub one_empty_run : List ℕ
one_empty_run =
    114 ∷ 117 ∷ 110 ∷ 48 ∷ 49 ∷ 32 ∷ 114 ∷ 101 ∷ 102 ∷ 117 ∷ 115 ∷ 101 ∷ 100 ∷ 32 ∷ 49 ∷ 50 ∷ 10 ∷ []
    ++ 97 ∷ 99 ∷ 99 ∷ 101 ∷ 112 ∷ 116 ∷ 101 ∷ 100 ∷ 32 ∷ 48 ∷ 32 ∷ []
    ++ 114 ∷ 101 ∷ 102 ∷ 117 ∷ 115 ∷ 101 ∷ 100 ∷ 32 ∷ 49 ∷ 32 ∷ []
    ++ 116 ∷ 111 ∷ 116 ∷ 97 ∷ 108 ∷ 32 ∷ 49 ∷ 10 ∷ []

-- no file: `accepted 0 refused 0 total 0`
unfoldable pub no_run : List ℕ
no_run =
    97 ∷ 99 ∷ 99 ∷ 101 ∷ 112 ∷ 116 ∷ 101 ∷ 100 ∷ 32 ∷ 48 ∷ 32 ∷ []
    ++ 114 ∷ 101 ∷ 102 ∷ 117 ∷ 115 ∷ 101 ∷ 100 ∷ 32 ∷ 48 ∷ 32 ∷ []
    ++ 116 ∷ 111 ∷ 116 ∷ 97 ∷ 108 ∷ 32 ∷ 48 ∷ 10 ∷ []
