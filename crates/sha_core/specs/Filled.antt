-- What the functions that fill the message schedule say. Assumes nothing.
use Rattle.std.specs.Prelude.{◌≡◌, ℕ, ◌+◌, List, length, take}
use Rattle.sha_core.specs.Fips180.{schedule}

-- where w holds W_0 .. W_(t - 1) of the block b, x holds W_0 .. W_(t + 7)
pub record Filled (b : List ℕ) (t : ℕ) (w x : List ℕ) : Type 0 where
  pub long : length x ≡ 64
  pub words : take t w ≡ schedule t b → take (t + 8) x ≡ schedule (t + 8) b
