-- What the functions answer, and the law of each arm of their code. Assumes nothing.
use Rattle.std.specs.Prelude.{ℕ, ◌<◌, ◌≡◌}

-- r is v, a number below q.
pub record Residue (q v r : ℕ) : Type 0 where
  pub is : r ≡ v
  pub below : r < q
