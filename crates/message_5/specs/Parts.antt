-- What one execution or all of them give for the numbers of a key that was read. D is the depth of the seed tree.
-- Assumes nothing.
use Rattle.std.specs.Prelude.{ℕ, ◌+◌, ◌*◌, ◌<◌, ◌≡◌, List, [], get_or}
use Rattle.lists.specs.Index.{cat, pick}
use Rattle.sha_core.specs.Fips180.{sha256}
use Rattle.sha.specs.State.{Fed}
use Rattle.sha.specs.declared.Sha.{Sha}
use Rattle.protocol.specs.Key.{Key, depth}
use Rattle.protocol.specs.Shares.{Ψin, dealt}
use Rattle.protocol.specs.Prover.{prover_view, opened, message5}
use Rattle.execution.specs.Shown.{Sized}

-- the numbers and the entries are those of the key
pub record Keyed (q n m N D : ℕ) (entries : List ℕ) (K : Key) : Type 0 where
  pub sized : Sized q m N K
  pub rows : K.n ≡ n
  pub entry : (j : ℕ) → j < n * (m + 1) → K.entry j ≡ get_or entries j 0
  pub deep : depth K ≡ D

-- Ψ of an execution that is dealt
pub record PsiOf (q n m N D e : ℕ) (master secret κ L entries r : List ℕ) : Type 0 where
  pub is : (K : Key) → Keyed q n m N D entries K → r ≡ sha256 (Ψin K (dealt K e master (λ k. get_or secret k 0)) κ L)

-- Ψ of execution x, if it is kept, is fed to a hash
pub record KeptFed (q n m N D x : ℕ) (E seeds secret κ L entries : List ℕ) (s r : Sha) : Type 0 where
  pub fed : (K : Key) → Keyed q n m N D entries K → Fed s (pick (opened E x) [] (sha256 (Ψin K (prover_view K seeds secret x) κ L))) r

-- Ψ of each kept execution below x is fed to a hash
pub record AllFed (q n m N D x : ℕ) (E seeds secret κ L entries : List ℕ) (s₀ s : Sha) : Type 0 where
  pub fed : (K : Key) → Keyed q n m N D entries K → Fed s₀ (cat x (λ e. pick (opened E e) [] (sha256 (Ψin K (prover_view K seeds secret e) κ L)))) s

-- message 5
pub record Fifth (q n m N D M : ℕ) (E seeds secret κ L entries r : List ℕ) : Type 0 where
  pub is : (K : Key) → Keyed q n m N D entries K → K.M ≡ M → r ≡ message5 K seeds secret E κ L
