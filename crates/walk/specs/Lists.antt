-- The inputs of the three list hashes of a transcript in one list: hΓ's, hπ's and hψ's.
-- Assumes nothing.
use Rattle.std.specs.Prelude.{ℕ, ◌+◌, ◌*◌, ◌≡◌, List, length}
use Rattle.lists.specs.Index.{part}
use Rattle.protocol.specs.Key.{Key, kept_count}
use Rattle.protocol.specs.Prover.{hΓin, hπin, hψin}
use Rattle.protocol.specs.Transcript.{Parts}
use Rattle.protocol.specs.Judge.{κ, view}

-- Where they begin, for M executions of which c are kept; the first is at 0.
abbrev pub hπ_from : ℕ → ℕ
hπ_from M = 32 * M

abbrev pub hψ_from : ℕ → ℕ → ℕ
hψ_from M c = 32 * M + 32 * c

abbrev pub lists_size : ℕ → ℕ → ℕ
lists_size M c = 32 * M + 64 * c

pub record Listed (K : Key) (P : Parts) (x : List ℕ) : Type 0 where
  pub long : length x ≡ lists_size K.M (kept_count K)
  pub hΓ : part x 0 (32 * K.M) ≡ hΓin K (view K P)
  pub hπ : part x (hπ_from K.M) (32 * kept_count K) ≡ hπin K (view K P) P.p2 (κ K P)
  pub hψ : part x (hψ_from K.M (kept_count K)) (32 * kept_count K) ≡ hψin K (view K P) P.p2 (κ K P) P.p4
