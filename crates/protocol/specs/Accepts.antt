-- What an accepted transcript is: each test of the judge as a fact. `judge key x ≡ accepted` exactly if `Accepts key x`.
-- Executions e, parties i, columns k and rows l count from 0.
-- Assumes nothing.
use Rattle.std.specs.Prelude.{ℕ, ◌+◌, ◌*◌, ◌%◌, ◌≤◌, ◌<◌, ◌≡◌, false, List, ◌∷◌, length, get_or}
use Rattle.lists.specs.Bytes.{num}
use Rattle.numbers.specs.Sum.{sum}
use Rattle.numbers.specs.Inverse.{Member, qs, Ns}
use Rattle.protocol.specs.Key.{Key, entries, kept_count, key_of}
use Rattle.protocol.specs.Shares.{H, Ωin, o}
use Rattle.protocol.specs.Prover.{opened, hΓin, hπin, hψin}
use Rattle.protocol.specs.Transcript.{Parts, parts_of, sizes}
use Rattle.protocol.specs.Judge.{hides_n, given_count, reply_size, given, κ, Ω_at, hπ_at, kept_view, view}

-- Document 01, Key: the limits, and every entry is below q.
pub record GoodKey (K : Key) : Type 0 where
  pub q : Member K.q qs
  pub n_least : 1 ≤ K.n
  pub n_most : K.n ≤ 32
  pub m_least : 2 ≤ K.m
  pub m_most : K.m ≤ 128
  pub n_below : K.n < K.m
  pub N : Member K.N Ns
  pub executions_least : 2 ≤ K.M
  pub executions_most : K.M ≤ 32
  pub τ_least : 1 ≤ K.τ
  pub τ_below : K.τ < K.M
  pub entry_lt : (j : ℕ) → j < entries K → K.entry j < K.q

-- Document 01, Transcript: the seven pairs of offset and length.
pub record GoodHeader (K : Key) (x : List ℕ) : Type 0 where
  pub least : 56 ≤ length x
  pub size : (i : ℕ) → i < 6 → num x (2 * i + 1) ≡ get_or (sizes K) i 0
  pub offset : (i : ℕ) → i < 7 → num x (2 * i) ≡ 56 + sum i (λ j. get_or (sizes K) j 0)
  pub end : num x 12 + num x 13 ≡ length x

-- Document 01, Transcript: the parts' lengths, E and the hidden list, and every number of part 7 is below q.
pub record GoodParts (K : Key) (P : Parts) : Type 0 where
  pub long1 : length P.p1 ≡ 32
  pub long2 : length P.p2 ≡ K.τ
  pub long3 : length P.p3 ≡ 16 * K.τ + 32 * kept_count K + 32
  pub long4 : length P.p4 ≡ 16
  pub long5 : length P.p5 ≡ 32
  pub long6 : length P.p6 ≡ kept_count K
  pub long7 : length P.p7 ≡ 16 + sum K.M (reply_size K P)
  pub e_rises : (j : ℕ) → j < K.τ → get_or (0 ∷ P.p2) j 0 < get_or P.p2 j 0
  pub e_most : (j : ℕ) → j < K.τ → get_or P.p2 j 0 ≤ K.M
  pub hidden_least : (j : ℕ) → j < kept_count K → 1 ≤ get_or P.p6 j 0
  pub hidden_most : (j : ℕ) → j < kept_count K → get_or P.p6 j 0 ≤ K.N
  pub below : (e : ℕ) → e < K.M → opened P.p2 e ≡ false → (j : ℕ) → j < given_count K P e → given K P e j < K.q

-- Document 01, Judge: of each kept execution Ω where N is open, and the sum of the o; then the three list hashes.
pub record GoodValues (K : Key) (P : Parts) : Type 0 where
  pub Ω : (e : ℕ) → e < K.M → opened P.p2 e ≡ false → hides_n K P e ≡ false → Ω_at K P e ≡ H (Ωin K (kept_view K P e))
  pub zero_sum : (e : ℕ) → e < K.M → opened P.p2 e ≡ false → sum K.N (o K (kept_view K P e) P.p4) % K.q ≡ 0
  pub hΓ : P.p1 ≡ H (hΓin K (view K P))
  pub hπ : hπ_at K P ≡ H (hπin K (view K P) P.p2 (κ K P))
  pub hψ : P.p5 ≡ H (hψin K (view K P) P.p2 (κ K P) P.p4)

-- The judge's acceptance of the bytes x for the key's bytes.
pub record Accepts (key x : List ℕ) : Type 0 where
  pub long : length key ≡ 24 + 4 * entries (key_of key)
  pub good_key : GoodKey (key_of key)
  pub good_header_lem : GoodHeader (key_of key) x
  pub good_parts : GoodParts (key_of key) (parts_of x)
  pub good_values : GoodValues (key_of key) (parts_of x)
