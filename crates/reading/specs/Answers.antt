-- What each answer of the pair reader means in document 01's numbers, and what it leaves in each lent list. What follows the part that
-- is written stays as it was.
-- Assumes nothing.
use Rattle.std.specs.Prelude.{List, ◌++◌, ℕ, length, drop, Result, Ok, Err}
use Rattle.refusals.specs.declared.Refusal.{Refusal}
use Rattle.refusals.specs.Refused.{number}
use Rattle.protocol.specs.Pair as pair
use Rattle.protocol.specs.Pair.{refusal, collision, secret, square, errors, Said, refused_as, found_as, value_list}
use Rattle.compare.specs.Kinds as kinds
use Rattle.reading.specs.declared.Finding.{Finding}
use Rattle.reading.specs.declared.Finding.TheVariants.{Collision, Secret, Square, Errors}

-- a list whose front is written over
abbrev pub over : List ℕ → List ℕ → List ℕ
over l before = l ++ drop (length l) before

-- document 01's number and values of each case of the answer
abbrev pub means : Result Finding Refusal → Said
means (Ok (Collision kind e i n)) = found_as 1 (value_list (kinds.number kind) e (kinds.party_number i) n 0 0 0)
means (Ok Secret) = found_as 2 (value_list 0 0 0 0 0 0 0)
means (Ok (Square e k b d)) = found_as 3 (value_list 0 e 0 0 k b d)
means (Ok (Errors e)) = found_as 4 (value_list 0 e 0 0 0 0 0)
means (Err r) = refused_as (number r)

-- both hash inputs of a collision
abbrev pub hash1_of : pair.Reading → List ℕ → List ℕ
hash1_of (refusal n) before = before
hash1_of (collision kind e party one two) before = over one before
hash1_of (secret bits) before = before
hash1_of (square e k b d) before = before
hash1_of (errors e l) before = before

abbrev pub hash2_of : pair.Reading → List ℕ → List ℕ
hash2_of (refusal n) before = before
hash2_of (collision kind e party one two) before = over two before
hash2_of (secret bits) before = before
hash2_of (square e k b d) before = before
hash2_of (errors e l) before = before

-- the secret
abbrev pub bits_of : pair.Reading → List ℕ → List ℕ
bits_of (refusal n) before = before
bits_of (collision kind e party one two) before = before
bits_of (secret bits) before = over bits before
bits_of (square e k b d) before = before
bits_of (errors e l) before = before

-- u and v
abbrev pub errors_of : pair.Reading → List ℕ → List ℕ
errors_of (refusal n) before = before
errors_of (collision kind e party one two) before = before
errors_of (secret bits) before = before
errors_of (square e k b d) before = before
errors_of (errors e l) before = over l before
