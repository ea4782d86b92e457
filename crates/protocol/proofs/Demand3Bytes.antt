-- The hash inputs of a transcript that is a list of bytes are lists of bytes.
-- Assumes nothing.
use Prim.Native.Nat.{ℕ, ◌+◌, ◌*◌, ◌-◌}
use mathlib.Core.List.{List, [], ◌++◌}
use lib.ListN.{take}
use Rattle.lists.specs.Index.{pick, cat}
use Rattle.lists.specs.Bytes.{nums}
use Rattle.lists.specs.ByteList.{Bytes, bytes_nil, bytes-append, bytes_take, bytes-part, bytes-pick, bytes-cat, bytes-nums}
use Rattle.numbers.specs.Sum.{sum}
use Rattle.sha_core.specs.Digest.{sha256_below}
use Rattle.streams.specs.ByteLaws.{block-bytes}
use Rattle.tree.specs.TreeLaws.{reopened-bytes}
use Rattle.protocol.specs.Key.{Key, depth}
use Rattle.protocol.specs.Shares.{H, input, View, is_hidden, is_n, α, Γin, Γ, hin, Ωin, Πin, o, Ψin}
use Rattle.protocol.specs.Prover.{opened, kept, hΓin, hπin, hψin}
use Rattle.protocol.specs.Transcript.{Parts}
use Rattle.protocol.specs.Judge.{hidden, reply_size, reply_at, kept_view}

-- A view whose seeds and given Γ are bytes.
pub record ByteView (v : View) : Type 0 where
  pub seeds : (i : ℕ) → Bytes (v.seed i)
  pub given : Bytes v.Γh

h-bytes : (x : List ℕ) → Bytes (H x)
h-bytes x = record { below = sha256_below x }

module _ (K : Key) (v : View) where
  pub hin_bytes : ByteView v → Bytes (hin K v)
  unfolding hin input Γ
  hin_bytes z = bytes-cat K.N (λ i h. bytes-pick (is_hidden K v i) z.given (h-bytes (Γin K v i)))

  pub Γin_bytes : ByteView v → (i : ℕ) → Bytes (Γin K v i)
  unfolding Γin input
  Γin_bytes z i =
      bytes-append (v.seed i ++ pick (is_n K i) (nums K.m v.d_n) [])
      (bytes-append (v.seed i) (z.seeds i) (bytes-pick (is_n K i) (bytes-nums K.m v.d_n) bytes_nil))
      (block-bytes (v.seed i) 0 (z.seeds i))

  pub Ωin_bytes : ByteView v → Bytes (Ωin K v)
  unfolding Ωin input
  Ωin_bytes z =
      bytes-append (nums K.m v.s_n) (bytes-nums K.m v.s_n) (block-bytes (v.seed (K.N - 1)) 1 (z.seeds (K.N - 1)))

  pub Πin_bytes : (κ : List ℕ) → Bytes κ → Bytes (Πin K v κ)
  unfolding Πin input
  Πin_bytes κ b =
      bytes-append (cat K.m (λ k. nums K.N (α K v k))) (bytes-cat K.m (λ k h. bytes-nums K.N (α K v k)))
      (block-bytes κ (2 * v.ex) b)

  pub Ψin_bytes : (κ L : List ℕ) → Bytes κ → Bytes (Ψin K v κ L)
  unfolding Ψin input
  Ψin_bytes κ L b = bytes-append (nums K.N (o K v L)) (bytes-nums K.N (o K v L)) (block-bytes κ (2 * v.ex + 1) b)

-- The inputs of the list hashes are hashes.
module _ (K : Key) (seen : ℕ → View) where
  pub hΓin_bytes : Bytes (hΓin K seen)
  unfolding hΓin input
  hΓin_bytes = bytes-cat K.M (λ e h. h-bytes (hin K (seen e)))

  pub hπin_bytes : (E κ : List ℕ) → Bytes (hπin K seen E κ)
  unfolding hπin input kept
  hπin_bytes E κ = bytes-cat K.M (λ e h. bytes-pick (opened E e) bytes_nil (h-bytes (Πin K (seen e) κ)))

  pub hψin_bytes : (E κ L : List ℕ) → Bytes (hψin K seen E κ L)
  unfolding hψin input kept
  hψin_bytes E κ L = bytes-cat K.M (λ e h. bytes-pick (opened E e) bytes_nil (h-bytes (Ψin K (seen e) κ L)))

-- A kept execution reads its seeds and Γ from part 7.
pub kept-bytes : (K : Key) (P : Parts) → Bytes P.p7 → (e : ℕ) → ByteView (kept_view K P e)
unfolding kept_view reply_at
kept-bytes K P b e =
    let reply : Bytes (reply_at K P e) = bytes-part P.p7 (16 + sum e (reply_size K P)) (reply_size K P e) b in
    record {
      seeds = λ i. reopened-bytes (depth K) (hidden K P e) (take (16 * depth K) (reply_at K P e)) i (bytes_take (16 * depth K) (reply_at K P e) reply);
      given = bytes-part (reply_at K P e) (16 * depth K) 32 reply;
    }
