-- "The first number that applies": a list of tests, each with its number, and the verdict on it.
-- Assumes nothing.
use Rattle.std.specs.Prelude.{ℕ, Bool, true, false, List, [], ◌∷◌}

infix 70 ◌⇒◌
-- a test that refuses where it holds, with its number
pub data Check : Type 0 where
  ◌⇒◌ : Bool → ℕ → Check

pub data Verdict : Type 0 where
  accepted : Verdict
  refused : ℕ → Verdict

unfoldable pub first : List Check → Verdict
first [] = accepted
first ((true ⇒ n) ∷ l) = refused n
first ((false ⇒ n) ∷ l) = first l
