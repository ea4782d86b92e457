-- Primes: Euclid's lemma, and trial division. The three moduli of document 01 are prime. Assumes nothing.
use Rattle.std.specs.Prelude.{ℕ, ◌%◌, ◌<◌}

-- p is a prime: more than 1, and divided by no number between 1 and p.
pub record Prime (p : ℕ) : Type 0 where
  pub big : 1 < p
  pub undivided : (a : ℕ) → 1 < a → a < p → 0 < p % a
