-- A kept execution as the judge computes it: what its inputs stand for, and what its digests are. D is the depth of the seed tree.
-- Assumes nothing.
use Rattle.std.specs.Prelude.{ℕ, suc, ◌+◌, ◌*◌, ◌%◌, ◌<◌, ◌≡◌, Bool, List, eqb, get_or, replicate}
use Rattle.lists.specs.Bytes.{num}
use Rattle.numbers.specs.Sum.{sum}
use Rattle.sha_core.specs.Fips180.{sha256}
use Rattle.protocol.specs.Key.{Key, depth}
use Rattle.protocol.specs.Shares.{View, b, d, s, hin, Ωin, Πin, Ψin, o}
use Rattle.protocol.specs.Transcript.{Parts}
use Rattle.protocol.specs.Judge.{hidden, reply_at, κ, kept_view}
use Rattle.execution.specs.Shown.{Sized, Holds}

-- what Π, Ψ and the sum of o take: the open parties' shares, the hidden party's α and o, and the key's entries
pub record Shared (q n m N hid e : ℕ) (given entries work : List ℕ) (K : Key) (v : View) : Type 0 where
  pub sized : Sized q m N K
  pub rows : K.n ≡ n
  pub entry : (j : ℕ) → j < n * (m + 1) → K.entry j ≡ get_or entries j 0
  pub ex : v.ex ≡ e
  pub hidden : v.hid ≡ hid
  pub αh : (k : ℕ) → k < m → v.αh k ≡ num given k
  pub oh : v.oh ≡ num given m
  pub bs : Holds K.m K.N v.hid 0 work (b K v)
  pub ds : Holds K.m K.N v.hid K.m work (d K v)
  pub ss : Holds K.m K.N v.hid (2 * K.m) work (s K v)

-- Π, Ψ, and whether the outputs add up to 0
pub record Answered (K : Key) (v : View) (κ L pi psi : List ℕ) (cancels : Bool) : Type 0 where
  pub Π_is : pi ≡ sha256 (Πin K v κ)
  pub Ψ_is : psi ≡ sha256 (Ψin K v κ L)
  pub zero_is : cancels ≡ eqb (sum K.N (o K v L) % K.q) 0

-- the parts and the key of which these are the values for kept execution e
pub record KeptIn (q n m N D hid e : ℕ) (reply kappa seed entries : List ℕ) (K : Key) (P : Parts) : Type 0 where
  pub sized : Sized q m N K
  pub rows : K.n ≡ n
  pub entry : (j : ℕ) → j < n * (m + 1) → K.entry j ≡ get_or entries j 0
  pub deep : depth K ≡ D
  pub hides : hidden K P e ≡ hid
  pub at : reply_at K P e ≡ reply
  pub κ_is : κ K P ≡ kappa
  pub l_is : P.p4 ≡ seed

-- what the judge computes of kept execution e: h(e), Ω where party N is open, else zeros, Π, Ψ, and whether the outputs add up to 0
pub record Evaluates (K : Key) (P : Parts) (e : ℕ) (h omega pi psi : List ℕ) (cancels : Bool) : Type 0 where
  pub h_is : h ≡ sha256 (hin K (kept_view K P e))
  pub Ω_is : (suc (hidden K P e) ≡ K.N → ⊥) → omega ≡ sha256 (Ωin K (kept_view K P e))
  pub Ω_hidden : suc (hidden K P e) ≡ K.N → omega ≡ replicate 32 0
  pub answers : Answered K (kept_view K P e) (κ K P) P.p4 pi psi cancels
