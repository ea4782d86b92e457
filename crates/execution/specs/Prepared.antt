-- What lent lists hold once an execution is prepared in them: dealt by a prover, or reopened from part 7. D is the depth of the seed
-- tree.
-- Assumes nothing.
use Rattle.std.specs.Prelude.{ℕ, suc, ◌+◌, ◌*◌, ◌-◌, ◌<◌, ◌≡◌, List, eqb, get_or, drop}
use Rattle.lists.specs.Index.{pick}
use Rattle.lists.specs.Bytes.{num}
use Rattle.protocol.specs.Key.{Key, depth}
use Rattle.protocol.specs.Shares.{dealt}
use Rattle.protocol.specs.Transcript.{Parts}
use Rattle.protocol.specs.Judge.{hidden, reply_at, kept_view}
use Rattle.execution.specs.Shown.{Sized, Seeded, Shown, place_of}

-- the execution that is dealt from a master seed and the secret
pub record Dealt (q m N D : ℕ) (master secret leaves work : List ℕ) : Type 0 where
  pub shown : (K : Key) (e : ℕ) → Sized q m N K → depth K ≡ D → Shown K (dealt K e master (λ k. get_or secret k 0)) leaves work

-- of an execution that is opened by master seed, its seeds and party N's d; the secret z does not matter
pub record Opened (q m N D : ℕ) (master leaves work : List ℕ) : Type 0 where
  pub seeds : (K : Key) (e : ℕ) (z : ℕ → ℕ) → Sized q m N K → depth K ≡ D → Seeded K (dealt K e master z) leaves
  pub d_n : (K : Key) (e : ℕ) (z : ℕ → ℕ) → Sized q m N K → depth K ≡ D
      → (k : ℕ) → k < K.m → (dealt K e master z).d_n k ≡ get_or work (place_of K.m (K.N - 1) (K.m + k)) 0

-- the kept execution of which part 7 holds `reply`
pub record Kept (q m N D hid : ℕ) (reply leaves work : List ℕ) : Type 0 where
  pub shown : (K : Key) (P : Parts) (e : ℕ) → Sized q m N K → depth K ≡ D → hidden K P e ≡ hid → reply_at K P e ≡ reply
      → Shown K (kept_view K P e) leaves work

-- Document 01, part 7: how many numbers d and s of party N a reply holds
abbrev pub last_count : ℕ → ℕ → ℕ → ℕ
last_count m N hid = pick (eqb (suc hid) N) 0 (2 * m)

-- Document 01, part 7: the bytes of a reply's numbers, after the opened seeds and Γ
abbrev pub given_of : ℕ → List ℕ → List ℕ
given_of D reply = drop (16 * D + 32) reply

-- every number of a reply is below q
pub record Given (q m N D hid : ℕ) (reply : List ℕ) : Type 0 where
  pub below : (j : ℕ) → j < m + 1 + last_count m N hid → num (given_of D reply) j < q
