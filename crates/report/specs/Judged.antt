-- The numbers that a sheet is made of. Which bytes were read from which file no contract can say.
-- Assumes nothing.
use Rattle.std.specs.Prelude.{ℕ, ◌<◌, ◌≡◌, List, get_or}
use Rattle.refusals.specs.Number.{number_of}
use Rattle.protocol.specs.Judge.{judge}

-- each of the first n numbers is the judge's for this key and the bytes of some run
pub record Judged (key : List ℕ) (n : ℕ) (numbers : List ℕ) : Type 0 where
  pub run : ℕ → List ℕ
  pub is : (j : ℕ) → j < n → get_or numbers j 0 ≡ number_of (judge key (run j))
