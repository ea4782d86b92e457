-- Numbers modulo q: congruence, and a difference that is defined for all numbers.
-- Proofs take q as `suc c`; c then stands for -1. Assumes nothing.
use Rattle.std.specs.Prelude.{ℕ, ◌+◌, ◌-◌, ◌%◌, ◌≡◌}

-- a and b are one number modulo q.
pub record Cong (q a b : ℕ) : Type 0 where
  pub same : a % q ≡ b % q

-- The difference a - b modulo q.
unfoldable pub sub : ℕ → ℕ → ℕ → ℕ
sub q a b = (a + (q - b % q)) % q
