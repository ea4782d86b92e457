-- The moduli and the numbers of parties that a key may have, and the inverse of each of the second modulo each of the first.
-- Assumes nothing.
use Rattle.std.specs.Prelude.{ℕ, ◌+◌, ◌-◌, ◌/◌, ◌%◌, ◌≡◌, true, List, [], ◌∷◌, eqb}
use Rattle.lists.specs.Index.{pick, member}

-- x stands in the list l.
pub record Member (x : ℕ) (l : List ℕ) : Type 0 where
  pub listed : member x l ≡ true

-- P holds of each element of a list.
abbrev pub Each : (ℕ → Type 0) → List ℕ → Type 0
Each P [] = Unit {0}
Each P (x ∷ l) = P x × Each P l

-- Document 01, Key: q is the prime 257, 65537 or 2147483647.
abbrev pub qs : List ℕ
qs = 257 ∷ 65537 ∷ 2147483647 ∷ []

-- Document 01, Key: N (parties) is 2, 4, 8, 16 or 32.
abbrev pub Ns : List ℕ
Ns = 2 ∷ 4 ∷ 8 ∷ 16 ∷ 32 ∷ []

-- Document 01, Shares and messages: the inverse of N modulo q. Where q = 1 modulo N, N * (q / N) = -1; else q = -1, and N * (q / N + 1) = 1.
unfoldable pub inverse_of : ℕ → ℕ → ℕ
inverse_of q N = pick (eqb (q % N) 1) (q - q / N) (q / N + 1)
