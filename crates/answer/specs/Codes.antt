-- The calls' answers as one number for C: a message's length or a finding's number, or minus the refusal's number.
-- Assumes nothing.
use Rattle.std.specs.Prelude.{ℕ, ℤ, pos, neg_ℤ}
use Rattle.protocol.specs.Pair.{Said, refused_as, found_as}
use Rattle.prover.specs.Answers.{Answer, Length, Refused}

abbrev pub code_of : Answer → ℤ
code_of (Length n) = pos n
code_of (Refused n) = neg_ℤ (pos n)

-- how many bytes were written
abbrev pub length_of : Answer → ℕ
length_of (Length n) = n
length_of (Refused n) = 0

abbrev pub finding_code : Said → ℤ
finding_code (refused_as n) = neg_ℤ (pos n)
finding_code (found_as n values) = pos n
