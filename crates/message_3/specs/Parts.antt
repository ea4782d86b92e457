-- What one execution or all of them give for the numbers of a key that was read. D is the depth of the seed tree.
-- Assumes nothing.
use Rattle.std.specs.Prelude.{ℕ, ◌≡◌, List, ◌++◌, [], get_or}
use Rattle.lists.specs.Written.{Built}
use Rattle.lists.specs.Index.{cat, pick}
use Rattle.sha_core.specs.Fips180.{sha256}
use Rattle.sha.specs.State.{Fed}
use Rattle.sha.specs.declared.Sha.{Sha}
use Rattle.protocol.specs.Key.{Key, depth}
use Rattle.protocol.specs.Shares.{Ωin, Πin, dealt}
use Rattle.protocol.specs.Prover.{prover_view, opened, hπin}
use Rattle.execution.specs.Shown.{Sized}

-- Ω and Π of an execution that is dealt
pub record OmegaOf (q m N D e : ℕ) (master secret r : List ℕ) : Type 0 where
  pub is : (K : Key) → Sized q m N K → depth K ≡ D → r ≡ sha256 (Ωin K (dealt K e master (λ k. get_or secret k 0)))

pub record PiOf (q m N D e : ℕ) (master secret κ r : List ℕ) : Type 0 where
  pub is : (K : Key) → Sized q m N K → depth K ≡ D → r ≡ sha256 (Πin K (dealt K e master (λ k. get_or secret k 0)) κ)

-- of the kept executions below x, Ω stands in front of a list, and Π is fed to a hash
pub record KeptBuilt (q m N D x at : ℕ) (E seeds secret κ o₀ o : List ℕ) (s₀ s : Sha) : Type 0 where
  pub Ω : (K : Key) → Sized q m N K → depth K ≡ D → Built (λ e. pick (opened E e) [] (sha256 (Ωin K (prover_view K seeds secret e)))) x at o₀ o
  pub Π : (K : Key) → Sized q m N K → depth K ≡ D → Fed s₀ (cat x (λ e. pick (opened E e) [] (sha256 (Πin K (prover_view K seeds secret e) κ)))) s

-- Ω of the kept executions followed by hπ
pub record Rest (q m N D M : ℕ) (E seeds secret κ o : List ℕ) : Type 0 where
  pub is : (K : Key) → Sized q m N K → depth K ≡ D → K.M ≡ M
      → o ≡ cat M (λ e. pick (opened E e) [] (sha256 (Ωin K (prover_view K seeds secret e)))) ++ sha256 (hπin K (prover_view K seeds secret) E κ)
