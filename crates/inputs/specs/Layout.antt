-- Document 01, Pair reader: the hash inputs of one kept execution in a list of bytes: h(e), Γ(1) .. Γ(N), Ω, Π and Ψ.
-- Assumes nothing.
use Rattle.std.specs.Prelude.{ℕ, suc, ◌+◌, ◌*◌, ◌<◌, ◌≡◌, List, eqb, length}
use Rattle.lists.specs.Index.{pick, part}
use Rattle.protocol.specs.Key.{Key}
use Rattle.protocol.specs.Shares.{View, Γin, hin, Ωin, Πin, Ψin}

-- Where the inputs of an execution begin, for m columns and N parties; that of h(e) is at 0.
abbrev pub Γ_from : ℕ → ℕ → ℕ
Γ_from N i = 32 * N + 32 * i

abbrev pub Γ_size : ℕ → ℕ → ℕ → ℕ
Γ_size m N i = 32 + pick (eqb (suc i) N) (4 * m) 0

abbrev pub Ω_from : ℕ → ℕ → ℕ
Ω_from m N = 64 * N + 4 * m

abbrev pub Π_from : ℕ → ℕ → ℕ
Π_from m N = 64 * N + 8 * m + 16

abbrev pub Ψ_from : ℕ → ℕ → ℕ
Ψ_from m N = 64 * N + 8 * m + 4 * m * N + 32

abbrev pub execution_size : ℕ → ℕ → ℕ
execution_size m N = 68 * N + 8 * m + 4 * m * N + 48

-- the inputs of one execution; at the hidden party's places stands anything
pub record Written (K : Key) (v : View) (κ L x : List ℕ) : Type 0 where
  pub long : length x ≡ execution_size K.m K.N
  pub h : part x 0 (32 * K.N) ≡ hin K v
  pub Γ : (i : ℕ) → i < K.N → (i ≡ v.hid → ⊥) → part x (Γ_from K.N i) (Γ_size K.m K.N i) ≡ Γin K v i
  pub Ω : (suc v.hid ≡ K.N → ⊥) → part x (Ω_from K.m K.N) (4 * K.m + 16) ≡ Ωin K v
  pub Π : part x (Π_from K.m K.N) (4 * K.m * K.N + 16) ≡ Πin K v κ
  pub Ψ : part x (Ψ_from K.m K.N) (4 * K.N + 16) ≡ Ψin K v κ L
