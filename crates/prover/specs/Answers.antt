-- Document 01, "Where each number is given": what a call of the prover answers.
-- Assumes nothing.
use Rattle.std.specs.Prelude.{ℕ, List, ◌++◌, length, Result, Ok, Err}
use Rattle.lists.specs.Check.{Check, Verdict, accepted, refused, first}
use Rattle.protocol.specs.Key.{Key, key_of, key_checks}
use Rattle.protocol.specs.Prover.{lent_checks}
use Rattle.refusals.specs.declared.Refusal.{Refusal}
use Rattle.refusals.specs.Refused.{number}

-- the length of the message, or the number of the refusal
pub data Answer : Type 0 where
  Length : ℕ → Answer
  Refused : ℕ → Answer

abbrev pub answer_of : Verdict → List ℕ → Answer
answer_of accepted message = Length (length message)
answer_of (refused n) message = Refused n

-- what a result of the code says
abbrev pub said : Result ℕ Refusal → Answer
said (Ok n) = Length n
said (Err r) = Refused (number r)

-- the verdict on a call whose inputs have these checks and give this message, from the output's length, the place and the lengths of
-- both work lists
abbrev pub verdict : (Key → List Check) → (Key → List ℕ) → List ℕ → ℕ → ℕ → ℕ → ℕ → Verdict
verdict checks message key size from work entry =
    let K = key_of key in first (key_checks K key ++ checks K ++ lent_checks K (message K) size from work entry)
