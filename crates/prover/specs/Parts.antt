-- What the prover's calls read and write.
-- Assumes nothing.
use Rattle.std.specs.Prelude.{ℕ, ◌*◌, ◌≡◌, List, ◌∷◌, [], length, Bool, true}
use Rattle.lists.specs.Index.{holds}
use Rattle.protocol.specs.Key.{Key}
use Rattle.protocol.specs.Prover.{sized, good_e}

-- the lengths of the master seeds, the secret and κ
pub record SizedInputs (m M : ℕ) (seeds secret κ : List ℕ) (r : Bool) : Type 0 where
  pub is : (K : Key) → K.m ≡ m → K.M ≡ M → r ≡ holds (sized seeds (16 * K.M) ∷ sized secret K.m ∷ sized κ 16 ∷ [])

-- the inputs of a call that is not refused with 6 or 7
pub record Inputs (K : Key) (seeds secret E κ : List ℕ) : Type 0 where
  pub seeds_long : length seeds ≡ 16 * K.M
  pub secret_long : length secret ≡ K.m
  pub κ_long : length κ ≡ 16
  pub good : good_e K E ≡ true
