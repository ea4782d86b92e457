-- A running hash that was begun for a hash input: what is fed to it is the body.
-- Assumes nothing.
use Rattle.std.specs.Prelude.{ℕ, List}
use Rattle.sha.specs.State.{Stands, Fed}
use Rattle.sha.specs.declared.Sha.{Sha}
use Rattle.protocol.specs.Shares.{input}

pub record Begun (kind e i : ℕ) (s : Sha) : Type 0 where
  pub stands : (body : List ℕ) (z : Sha) → Fed s body z → Stands z (input kind e i body)
