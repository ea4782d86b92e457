-- An execution whose shares a prover holds, of which nobody is hidden.
-- Assumes nothing.
use Rattle.std.specs.Prelude.{ℕ, ◌+◌, ◌*◌, ◌<◌, ◌≡◌, List, get_or}
use Rattle.numbers.specs.Mod.{sub}
use Rattle.protocol.specs.Key.{Key}
use Rattle.protocol.specs.Shares.{View, b, d, s}
use Rattle.execution.specs.Shown.{Sized, Holds}
use Rattle.execution.specs.Lists.{column_of}

-- what the outputs take: all parties' shares, and the key's entries
pub record Held (q n m N e : ℕ) (entries work : List ℕ) (K : Key) (v : View) : Type 0 where
  pub sized : Sized q m N K
  pub rows : K.n ≡ n
  pub entry : (j : ℕ) → j < n * (m + 1) → K.entry j ≡ get_or entries j 0
  pub ex : v.ex ≡ e
  pub hidden : v.hid ≡ K.N
  pub oh : v.oh ≡ 0
  pub bs : Holds K.m K.N v.hid 0 work (b K v)
  pub ds : Holds K.m K.N v.hid K.m work (d K v)
  pub ss : Holds K.m K.N v.hid (2 * K.m) work (s K v)

-- α(k) from the work list: the sum of all s less the sum of all b
unfoldable pub alpha_sum : ℕ → ℕ → ℕ → List ℕ → ℕ → ℕ
alpha_sum q m N work k = sub q (column_of m N work (2 * m + k)) (column_of m N work k)
