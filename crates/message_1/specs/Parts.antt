-- What one execution or all of them give for the numbers of a key that was read. D is the depth of the seed tree.
-- Assumes nothing.
use Rattle.std.specs.Prelude.{ℕ, ◌≡◌, List, []}
use Rattle.lists.specs.Index.{cat}
use Rattle.sha_core.specs.Fips180.{sha256}
use Rattle.sha.specs.State.{Fed}
use Rattle.sha.specs.declared.Sha.{Sha}
use Rattle.protocol.specs.Key.{Key, depth}
use Rattle.protocol.specs.Shares.{hin}
use Rattle.protocol.specs.Prover.{prover_view, message1}
use Rattle.execution.specs.Shown.{Sized}

-- h(1) .. h(x) are fed to a hash
pub record FedH (q m N D : ℕ) (seeds : List ℕ) (s₀ : Sha) (x : ℕ) (s : Sha) : Type 0 where
  pub fed : (K : Key) → Sized q m N K → depth K ≡ D → Fed s₀ (cat x (λ e. sha256 (hin K (prover_view K seeds [] e)))) s

-- message 1
pub record First (q m N M D : ℕ) (seeds r : List ℕ) : Type 0 where
  pub is : (K : Key) → Sized q m N K → K.M ≡ M → depth K ≡ D → r ≡ message1 K seeds
