-- Document 01, Key: six numbers q, n, m, N, M, τ, then A row by row, then t, and what a key is refused for.
-- Assumes nothing.
use Rattle.std.specs.Prelude.{ℕ, suc, ◌+◌, ◌*◌, ◌-◌, ◌^◌, Bool, not, List, [], ◌∷◌, ltb, leb, eqb, length}
use Rattle.lists.specs.Index.{every, count, member, holds}
use Rattle.lists.specs.Bytes.{num}
use Rattle.lists.specs.Check.{Check, ◌⇒◌}
use Rattle.numbers.specs.Inverse.{qs, Ns}

-- N parties, M executions, τ of them opened by master seed; `entry` numbers the entries of A, row by row, and then of t
pub record Key : Type 0 where
  pub q : ℕ
  pub n : ℕ
  pub m : ℕ
  pub N : ℕ
  pub M : ℕ
  pub τ : ℕ
  pub entry : ℕ → ℕ

module _ (K : Key) where
  -- row l, column k of A
  abbrev pub A : ℕ → ℕ → ℕ
  A l k = K.entry (l * K.m + k)

  abbrev pub t : ℕ → ℕ
  t l = K.entry (K.n * K.m + l)

  -- how many entries A and t have
  abbrev pub entries : ℕ
  entries = K.n * (K.m + 1)

  -- log2 N, the depth of a seed tree
  unfoldable pub depth : ℕ
  depth = count 5 (λ d. leb (2 ^ suc d) K.N)

  -- how many executions are kept
  abbrev pub kept_count : ℕ
  kept_count = K.M - K.τ

unfoldable pub key_of : List ℕ → Key
key_of x =
    record { q = num x 0; n = num x 1; m = num x 2; N = num x 3; M = num x 4; τ = num x 5; entry = λ j. num x (6 + j) }

-- n is 1 to 32, m is 2 to 128, n < m; N is 2, 4, 8, 16 or 32; M is 2 to 32; τ is 1 to M - 1
unfoldable pub limits : Key → List Bool
limits K =
    leb 1 K.n ∷ leb K.n 32 ∷ leb 2 K.m ∷ leb K.m 128 ∷ ltb K.n K.m ∷ member K.N Ns
    ∷ leb 2 K.M ∷ leb K.M 32 ∷ leb 1 K.τ ∷ ltb K.τ K.M ∷ []

-- Document 01's table, first row: 1 to 5
unfoldable pub key_checks : Key → List ℕ → List Check
key_checks K x =
    ltb (length x) 24 ⇒ 1
    ∷ not (member K.q qs) ⇒ 2
    ∷ not (holds (limits K)) ⇒ 3
    ∷ not (eqb (length x) (24 + 4 * entries K)) ⇒ 4
    ∷ not (every (entries K) (λ j. ltb (K.entry j) K.q)) ⇒ 5
    ∷ []
