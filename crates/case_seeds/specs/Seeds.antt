-- Seeds, found by search, whose numbers modulo 257 are the drawn shares of document 01's case d, and one whose first number is 1.
-- Assumes nothing.
use Rattle.std.specs.Prelude.{ℕ, List, ◌∷◌, replicate}

-- a seed of these four bytes and twelve zeros
abbrev padded : (a b c d : ℕ) → List ℕ
padded a b c d = a ∷ b ∷ c ∷ d ∷ replicate 12 0

unfoldable pub seed₁ : List ℕ
seed₁ = padded 236 63 225 1

unfoldable pub seed₂ : List ℕ
seed₂ = padded 140 3 0 0

unfoldable pub seed_l : List ℕ
seed_l = padded 147 0 0 0
