-- How lent lists stand for an execution: `leaves` holds the parties' seeds, 16 bytes each, and `work` each party's b, d and s in turn,
-- m numbers each. What stands at the hidden party's places is free.
-- Assumes nothing.
use Rattle.std.specs.Prelude.{ℕ, ◌+◌, ◌*◌, ◌<◌, ◌≤◌, ◌≡◌, List, get_or}
use Rattle.lists.specs.Index.{part}
use Rattle.numbers.specs.Inverse.{Member, qs}
use Rattle.protocol.specs.Key.{Key}
use Rattle.protocol.specs.Shares.{View, b, d, s}

-- what is known of the modulus, the number of columns and the number of parties of a key that was read
pub record Limits (q m N : ℕ) : Type 0 where
  pub q_listed : Member q qs
  pub m_least : 2 ≤ m
  pub m_most : m ≤ 128
  pub parties_least : 2 ≤ N
  pub parties_most : N ≤ 32

-- the modulus, the columns and the parties are those of the key
pub record Sized (q m N : ℕ) (K : Key) : Type 0 where
  pub modulus : K.q ≡ q
  pub columns : K.m ≡ m
  pub parties : K.N ≡ N

-- place of number j of party i's 3m numbers
abbrev pub place_of : ℕ → ℕ → ℕ → ℕ
place_of m i j = 3 * m * i + j

-- g j i stands at number from + j of each party i that is not hidden
pub record Holds (m N hid : ℕ) (from : ℕ) (work : List ℕ) (g : ℕ → ℕ → ℕ) : Type 0 where
  pub at : (j i : ℕ) → j < m → i < N → (i ≡ hid → ⊥) → get_or work (place_of m i (from + j)) 0 ≡ g j i

-- the seeds of the parties that are open
pub record Seeded (K : Key) (v : View) (leaves : List ℕ) : Type 0 where
  pub at : (i : ℕ) → i < K.N → (i ≡ v.hid → ⊥) → part leaves (16 * i) 16 ≡ v.seed i

-- an execution whose seeds and shares stand in the lists
pub record Shown (K : Key) (v : View) (leaves work : List ℕ) : Type 0 where
  pub seeds : Seeded K v leaves
  pub bs : Holds K.m K.N v.hid 0 work (b K v)
  pub ds : Holds K.m K.N v.hid K.m work (d K v)
  pub ss : Holds K.m K.N v.hid (2 * K.m) work (s K v)
