-- The limits of a key's numbers, and the depth of its seed trees.
-- Assumes nothing.
use Rattle.std.specs.Prelude.{ℕ, ◌^◌, ◌≤◌, ◌<◌, ◌≡◌}
use Rattle.numbers.specs.Inverse.{Member, qs, Ns}
use Rattle.protocol.specs.Key.{Key, depth}

-- Document 01, Key: the limits of q, n, m, N, M, τ.
pub record Limits (q n m N M τ : ℕ) : Type 0 where
  pub q_listed : Member q qs
  pub n_least : 1 ≤ n
  pub n_most : n ≤ 32
  pub m_least : 2 ≤ m
  pub m_most : m ≤ 128
  pub n_below_m : n < m
  pub parties_listed : Member N Ns
  pub parties_least : 2 ≤ N
  pub parties_most : N ≤ 32
  pub executions_least : 2 ≤ M
  pub executions_most : M ≤ 32
  pub τ_least : 1 ≤ τ
  pub τ_below_m : τ < M

-- r is log2 of the number p of parties, the depth of a seed tree.
pub record Depth (p r : ℕ) : Type 0 where
  pub most : r ≤ 5
  pub power : 2 ^ r ≡ p
  pub is : (K : Key) → K.N ≡ p → r ≡ depth K
