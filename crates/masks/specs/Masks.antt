-- What lent lists hold of an execution that is dealt without its d: its seeds, b and s. D is the depth of the seed tree.
-- Assumes nothing.
use Rattle.std.specs.Prelude.{ℕ, suc, ◌+◌, ◌*◌, ◌<◌, ◌≡◌, List, length, get_or}
use Rattle.lists.specs.Index.{part}
use Rattle.streams.specs.Streams.{number}
use Rattle.protocol.specs.Key.{Key, depth}
use Rattle.protocol.specs.Shares.{View, b, s, dealt}
use Rattle.execution.specs.Shown.{Sized, Seeded, Holds, place_of}

-- party i has drawn its b and, unless it is party N, its s; zeros stand in place of its d, and the parties before it keep their numbers
pub record Row (q m N i : ℕ) (seed before after : List ℕ) : Type 0 where
  pub long : length after ≡ length before
  pub bs : (j : ℕ) → j < m → get_or after (place_of m i j) 0 ≡ number q seed 2 j
  pub zs : (j : ℕ) → j < m → get_or after (place_of m i (m + j)) 0 ≡ 0
  pub ss : (j : ℕ) → (suc i ≡ N → ⊥) → j < m → get_or after (place_of m i (2 * m + j)) 0 ≡ number q seed 2 (2 * m + j)
  pub below : (x : ℕ) → x < 3 * m * i → get_or after x 0 ≡ get_or before x 0

-- each of the first n parties has
pub record Masks (q m N : ℕ) (leaves work : List ℕ) (n : ℕ) : Type 0 where
  pub bs : (i j : ℕ) → i < n → j < m → get_or work (place_of m i j) 0 ≡ number q (part leaves (16 * i) 16) 2 j
  pub zs : (i j : ℕ) → i < n → j < m → get_or work (place_of m i (m + j)) 0 ≡ 0
  pub ss : (i j : ℕ) → i < n → (suc i ≡ N → ⊥) → j < m → get_or work (place_of m i (2 * m + j)) 0 ≡ number q (part leaves (16 * i) 16) 2 (2 * m + j)

-- an execution whose seeds, b and s stand in the lists
pub record Carried (K : Key) (v : View) (leaves work : List ℕ) : Type 0 where
  pub seeds : Seeded K v leaves
  pub bs : Holds K.m K.N v.hid 0 work (b K v)
  pub ss : Holds K.m K.N v.hid (2 * K.m) work (s K v)

-- those of the execution that is dealt from a master seed and the secret
pub record Masked (q m N D : ℕ) (master secret leaves work : List ℕ) : Type 0 where
  pub carried : (K : Key) (e : ℕ) → Sized q m N K → depth K ≡ D → Carried K (dealt K e master (λ k. get_or secret k 0)) leaves work
