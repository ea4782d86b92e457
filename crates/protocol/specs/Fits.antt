-- Document 01, Pair reader: how great the numbers of an answer can be. None needs more than 32 bits.
-- Assumes nothing.
use Rattle.std.specs.Prelude.{ℕ, ◌≤◌, ◌<◌, length}
use Rattle.protocol.specs.Pair.{Reading, refusal, collision, secret, square, errors}

abbrev pub Within : ℕ → ℕ → ℕ → Type 0
Within least most x = (least ≤ x) × (x ≤ most)

-- e and k count from 1, i from 1 where there is one; b and d are below the greatest q; m is at most 128, and n + m at most 160
abbrev pub Fits : Reading → Type 0
Fits (refusal n) = Within 1 23 n
Fits (collision kind e i one two) = Within 1 8 kind × Within 1 32 e × (i ≤ 32) × (length one ≤ 16400) × (length two ≤ 16400)
Fits (secret bits) = length bits ≤ 128
Fits (square e k b d) = Within 1 32 e × Within 1 128 k × (b < 2147483647) × (d < 2147483647)
Fits (errors e list) = Within 1 32 e × (length list ≤ 160)
