-- Document 01, Pair reader: the joined values s, b, d of an execution in a lent list, and how two transcripts' lists give them.
-- Assumes nothing.
use Prim.Native.Nat.{ℕ, ◌+◌, ◌*◌, ◌%◌, ◌<◌}
use Rattle.std.specs.Prelude.{◌≡◌, eqb}
use mathlib.Core.List.{List}
use Rattle.std.proofs.Math.ListN.{length, get_or}
use Rattle.lists.specs.Index.{pick}
use Rattle.numbers.specs.Sum.{sum}
use Rattle.protocol.specs.Key.{Key}
use Rattle.protocol.specs.Shares.{b, d, s}
use Rattle.protocol.specs.Transcript.{Parts}
use Rattle.protocol.specs.Pair.{joined}
use Rattle.execution.specs.Shown.{place_of}

-- number j of party i, 0 for the hidden party
abbrev pub open_at : ℕ → ℕ → List ℕ → ℕ → ℕ → ℕ
open_at m hid work j i = pick (eqb i hid) 0 (get_or work (place_of m i j) 0)

-- number j of each open party, summed modulo q
unfoldable pub open_sum : ℕ → ℕ → ℕ → ℕ → List ℕ → ℕ → ℕ
open_sum q m N hid work j = sum N (open_at m hid work j) % q

-- the sums with number j of party i added, modulo q
unfoldable pub with_party : ℕ → ℕ → ℕ → List ℕ → List ℕ → ℕ → ℕ
with_party q m i work sums j = (get_or sums j 0 + get_or work (place_of m i j) 0) % q

-- x is the joined b, then the joined d, then the joined s of execution e of two transcripts
pub record Joined (K : Key) (P R : Parts) (e : ℕ) (x : List ℕ) : Type 0 where
  pub long : length x ≡ 3 * K.m
  pub bs : (k : ℕ) → k < K.m → get_or x k 0 ≡ joined K P R e b k
  pub ds : (k : ℕ) → k < K.m → get_or x (K.m + k) 0 ≡ joined K P R e d k
  pub ss : (k : ℕ) → k < K.m → get_or x (2 * K.m + k) 0 ≡ joined K P R e s k
