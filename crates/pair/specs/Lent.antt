-- Document 01, Pair reader: the lengths of the lists that are lent to a call.
-- Assumes nothing.
use Rattle.std.specs.Prelude.{ℕ}
use Rattle.protocol.specs.Pair.{Lengths}

abbrev pub lengths : (hash1 hash2 secret uv entries work : ℕ) → Lengths
lengths hash1 hash2 secret uv entries work =
    record { work = work; entry = entries; hash1 = hash1; hash2 = hash2; bits = secret; errs = uv }
