-- An execution that is opened by master seed, as whoever has the seed hashes it. D is the depth of the seed tree.
-- Assumes nothing.
use Rattle.std.specs.Prelude.{ℕ, ◌≡◌, List}
use Rattle.sha_core.specs.Fips180.{sha256}
use Rattle.protocol.specs.Key.{Key, depth}
use Rattle.protocol.specs.Shares.{hin, dealt}
use Rattle.execution.specs.Shown.{Sized}

-- h(e) of an execution that is opened by master seed; the secret z does not matter
pub record OpenedHash (q m N D e : ℕ) (master r : List ℕ) : Type 0 where
  pub is : (K : Key) (z : ℕ → ℕ) → Sized q m N K → depth K ≡ D → r ≡ sha256 (hin K (dealt K e master z))
