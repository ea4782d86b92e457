-- What lent lists hold of an execution whose hashes are computed from them, laid out as in execution/specs/Shown. Executions and
-- parties count from 0; the hidden party is N where nobody is hidden.
-- Assumes nothing.
use Rattle.std.specs.Prelude.{ℕ, suc, ◌+◌, ◌*◌, ◌-◌, ◌<◌, ◌≤◌, ◌≡◌, List, [], ◌++◌, eqb, get_or}
use Rattle.std.proofs.Common.{arith}
use Rattle.lists.specs.Index.{pick, part}
use Rattle.lists.specs.Bytes.{words, num}
use Rattle.sha_core.specs.Fips180.{sha256}
use Rattle.streams.specs.Streams.{block}
use Rattle.protocol.specs.Key.{Key}
use Rattle.protocol.specs.Shares.{View, input, b, s}
use Rattle.execution.specs.Shown.{Limits, Sized, Holds, Seeded, place_of}

-- the sizes that keep places and labels small
pub record Bounded (m N e : ℕ) : Type 0 where
  pub columns : m ≤ 128
  pub least : 1 ≤ N
  pub most : N ≤ 32
  pub executions : e < 32

pub bounded : {q m N e : ℕ} → Limits q m N → e < 32 → Bounded m N e
bounded {q} {m} {N} {e} l h = record { columns = l.m_most; least = omega arith; most = l.parties_most; executions = h }

-- Γ(i) of an open party by its seed and, for party N, its d: Document 01, Shares and messages
unfoldable pub gamma_open : ℕ → ℕ → ℕ → List ℕ → List ℕ → ℕ → List ℕ
gamma_open m N e leaves work i =
    sha256
    (input 3 (e + 1) (i + 1)
    (part leaves (16 * i) 16 ++ words (pick (eqb (suc i) N) (part work (3 * m * i + m) m) []) ++ block (part leaves (16 * i) 16) 0))

-- Γ(i): given for the hidden party
unfoldable pub gamma_at : ℕ → ℕ → ℕ → ℕ → List ℕ → List ℕ → List ℕ → ℕ → List ℕ
gamma_at m N hid e given leaves work i = pick (eqb i hid) given (gamma_open m N e leaves work i)

-- what h(e) takes: the open parties' seeds, the hidden party's Γ, and d of party N unless it is hidden
pub record ForH (m N hid e : ℕ) (given leaves work : List ℕ) (K : Key) (v : View) : Type 0 where
  pub columns : K.m ≡ m
  pub parties : K.N ≡ N
  pub ex : v.ex ≡ e
  pub hidden : v.hid ≡ hid
  pub Γh : hid < N → v.Γh ≡ given
  pub seeds : Seeded K v leaves
  pub d_n : (suc hid ≡ N → ⊥) → (k : ℕ) → k < m → v.d_n k ≡ get_or work (place_of m (N - 1) (m + k)) 0

-- what Ω takes: seed and s of party N
pub record ForΩ (m N e : ℕ) (leaves work : List ℕ) (K : Key) (v : View) : Type 0 where
  pub columns : K.m ≡ m
  pub parties : K.N ≡ N
  pub ex : v.ex ≡ e
  pub seed : part leaves (16 * (N - 1)) 16 ≡ v.seed (N - 1)
  pub s_n : (k : ℕ) → k < m → v.s_n k ≡ get_or work (place_of m (N - 1) (2 * m + k)) 0

-- what Π takes: the open parties' b and s, and the hidden party's α
pub record ForΠ (q m N hid e : ℕ) (given work : List ℕ) (K : Key) (v : View) : Type 0 where
  pub sized : Sized q m N K
  pub ex : v.ex ≡ e
  pub hidden : v.hid ≡ hid
  pub αh : hid < N → (k : ℕ) → k < m → v.αh k ≡ num given k
  pub bs : Holds m N hid 0 work (b K v)
  pub ss : Holds m N hid (2 * m) work (s K v)
