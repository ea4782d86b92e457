-- Numbers of four bytes, little-endian (document 01: "A number takes 4 bytes in files and hash inputs").
-- Assumes nothing.
use Rattle.std.specs.Prelude.{ℕ, ◌+◌, ◌*◌, ◌/◌, ◌%◌, List, [], ◌∷◌, ◌++◌, get_or}
use Rattle.lists.specs.Index.{cat, part}

-- the four bytes of a number
unfoldable pub le4 : ℕ → List ℕ
le4 x = x % 256 ∷ x / 256 % 256 ∷ x / 65536 % 256 ∷ x / 16777216 % 256 ∷ []

-- the number that four bytes give
unfoldable pub rd4 : List ℕ → ℕ
rd4 x = get_or x 0 0 + 256 * get_or x 1 0 + 65536 * get_or x 2 0 + 16777216 * get_or x 3 0

-- the four bytes of each number of a list
unfoldable pub words : List ℕ → List ℕ
words [] = []
words (x ∷ xs) = le4 x ++ words xs

-- the numbers f 0 .. f (n - 1), four bytes each
unfoldable pub nums : ℕ → (ℕ → ℕ) → List ℕ
nums n f = cat n (λ k. le4 (f k))

-- number j of a list of bytes, the first being number 0
unfoldable pub num : List ℕ → ℕ → ℕ
num x j = rd4 (part x (4 * j) 4)
