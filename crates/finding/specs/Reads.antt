-- Document 01, Pair reader: what a call answers and leaves in its lent lists, by what the definitions read.
-- Assumes nothing.
use Rattle.std.specs.Prelude.{ℕ, ◌≡◌, List, Result}
use Rattle.protocol.specs.Pair.{Reading, says}
use Rattle.refusals.specs.declared.Refusal.{Refusal}
use Rattle.reading.specs.declared.Finding.{Finding}
use Rattle.reading.specs.Answers.{means, hash1_of, hash2_of, bits_of, errors_of}

-- the answer's number and values, and both hash buffers, the secret output and the u and v list, before and after
pub record Reads (x : Reading) (r : Result Finding Refusal) (h1 h1' h2 h2' bits bits' errs errs' : List ℕ) : Type 0 where
  pub answer : means r ≡ says x
  pub hash1 : h1' ≡ hash1_of x h1
  pub hash2 : h2' ≡ hash2_of x h2
  pub secret : bits' ≡ bits_of x bits
  pub uv : errs' ≡ errors_of x errs
