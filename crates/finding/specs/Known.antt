-- The finding that is read from lists of hash inputs and joined values, and what the lists hold of two transcripts.
-- Assumes nothing.
use Rattle.std.specs.Prelude.{ℕ, suc, ◌≡◌, false, List}
use Rattle.protocol.specs.Key.{Key, kept_count}
use Rattle.protocol.specs.Prover.{opened}
use Rattle.protocol.specs.Transcript.{Parts}
use Rattle.protocol.specs.Judge.{hidden, κ, kept_view}
use Rattle.protocol.specs.Pair.{Reading}
use Rattle.walk.specs.Lists.{Listed}
use Rattle.inputs.specs.Layout.{Written}
use Rattle.compare.specs.Spots.{first_spot, read_at, on_all}
use Rattle.joined.specs.Joined.{Joined}
use Rattle.reading.specs.Found.{found}

-- finding 1 at the first spot at which the lists differ, in execution e with h1 and h2 hidden, or else what is found from the sums
unfoldable pub found_in : Key → (e h1 h2 : ℕ) → (l1 l2 i1 i2 sums : List ℕ) → Reading
found_in K e h1 h2 l1 l2 i1 i2 sums =
    read_at l1 l2 i1 i2 (suc e) (found K e sums) (first_spot (on_all K.m K.N K.M (kept_count K) h1 h2) l1 l2 i1 i2)

-- the hash inputs of two transcripts and the joined values of execution e stand in the lists
pub record Known (K : Key) (P R : Parts) (e hid1 hid2 : ℕ) (l1 l2 i1 i2 sums : List ℕ) : Type 0 where
  pub listed1 : Listed K P l1
  pub listed2 : Listed K R l2
  pub written1 : Written K (kept_view K P e) (κ K P) P.p4 i1
  pub written2 : Written K (kept_view K R e) (κ K R) R.p4 i2
  pub hides1 : hidden K P e ≡ hid1
  pub hides2 : hidden K R e ≡ hid2
  pub kept1 : opened P.p2 e ≡ false
  pub kept2 : opened R.p2 e ≡ false
  pub joined : Joined K P R e sums
