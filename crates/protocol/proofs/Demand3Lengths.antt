-- The lengths of the hash inputs, and the bounds of the numbers in them.
-- Assumes nothing.
use Prim.Native.Nat.{ℕ, suc, ◌+◌, ◌*◌, ◌-◌, ◌<◌}
use mathlib.Core.Path.{◌≡◌, refl, ap, ap₂, ◌∙◌}
use mathlib.Core.Bool.{Bool, true, false, not}
use mathlib.Core.List.{List, [], ◌++◌}
use native.Mathlib.Omega.{arith}
use lib.ListN.{length, take, length-append}
use lib.Seq.{length-take-le}
use Rattle.lists.specs.Index.{pick, cat, count}
use Rattle.lists.specs.Bytes.{nums}
use Rattle.lists.specs.TestLaws.{pick_false}
use Rattle.lists.specs.CatLaws.{part_length, cat-length, cat-length-count, nums-length}
use Rattle.numbers.specs.Mod.{sub}
use Rattle.numbers.proofs.Mod.{sub-lt}
use Rattle.numbers.specs.Sum.{sum}
use Rattle.numbers.proofs.Sum.{sum_suc, sum_grows}
use Rattle.numbers.specs.Output.{out}
use Rattle.numbers.proofs.Output.{out-lt}
use Rattle.sha_core.specs.Digest.{sha256-length}
use Rattle.streams.specs.Streams.{block, block-length}
use Rattle.tree.specs.TreeLaws.{reopened-length}
use Rattle.protocol.specs.Key.{Key, depth}
use Rattle.protocol.specs.Shares.{H, input, View, is_hidden, is_n, s, b, α, αsum, Γin, Γ, hin, Ωin, Πin, run, o, Ψin}
use Rattle.protocol.specs.Prover.{opened, kept, hΓin, hπin, hψin}
use Rattle.protocol.specs.Transcript.{Parts}
use Rattle.protocol.specs.Judge.{hidden, given_count, reply_size, reply_at, kept_view, view}
use Rattle.protocol.specs.Accepts.{GoodParts}

-- What is asked of a view: seeds of 16 bytes, a given Γ of 32, and given numbers below q.
pub record Sized (K : Key) (v : View) : Type 0 where
  pub seeds : (i : ℕ) → length (v.seed i) ≡ 16
  pub Γ_long : length v.Γh ≡ 32
  pub α_below : (k : ℕ) → k < K.m → v.αh k < K.q
  pub o_below : v.oh < K.q

pick-length : {A : Type 0} (t : Bool) (a b : List A) (n : ℕ) → length a ≡ n → length b ≡ n → length (pick t a b) ≡ n
pick-length true a b n h k = h
pick-length false a b n h k = k

pick_below : (t : Bool) (a b n : ℕ) → a < n → b < n → pick t a b < n
pick_below true a b n h k = h
pick_below false a b n h k = k

module _ (K : Key) (v : View) where
  pub Γ_length : Sized K v → (i : ℕ) → length (Γ K v i) ≡ 32
  unfolding Γ
  Γ_length z i = pick-length (is_hidden K v i) v.Γh (H (Γin K v i)) 32 z.Γ_long (sha256-length (Γin K v i))

  pub hin_length : Sized K v → length (hin K v) ≡ K.N * 32
  unfolding hin input
  hin_length z = cat-length K.N 32 (Γ K v) (λ i h. Γ_length z i)

  pub Γin_length : Sized K v → (i : ℕ) → length (Γin K v i) ≡ 32 + pick (is_n K i) (4 * K.m) 0
  unfolding Γin input
  Γin_length z i =
      omega (
        arith,
        length-append (v.seed i ++ pick (is_n K i) (nums K.m v.d_n) []) (block (v.seed i) 0),
        length-append (v.seed i) (pick (is_n K i) (nums K.m v.d_n) []),
        z.seeds i,
        block-length (v.seed i) 0,
        middle (is_n K i),
      )
    where
      middle : (t : Bool) → length (pick t (nums K.m v.d_n) []) ≡ pick t (4 * K.m) 0
      middle true = nums-length K.m v.d_n
      middle false = refl

  pub Ωin_length : length (Ωin K v) ≡ 4 * K.m + 16
  unfolding Ωin input
  Ωin_length =
      length-append (nums K.m v.s_n) (block (v.seed (K.N - 1)) 1)
      ∙ ap₂ (λ (x y : ℕ). x + y) (nums-length K.m v.s_n) (block-length (v.seed (K.N - 1)) 1)

  pub Πin_length : (κ : List ℕ) → length (Πin K v κ) ≡ K.m * (4 * K.N) + 16
  unfolding Πin input
  Πin_length κ =
      length-append (cat K.m (λ k. nums K.N (α K v k))) (block κ (2 * v.ex))
      ∙ ap₂ (λ (x y : ℕ). x + y)
      (cat-length K.m (4 * K.N) (λ k. nums K.N (α K v k)) (λ k h. nums-length K.N (α K v k)))
      (block-length κ (2 * v.ex))

  pub Ψin_length : (κ L : List ℕ) → length (Ψin K v κ L) ≡ 4 * K.N + 16
  unfolding Ψin input
  Ψin_length κ L =
      length-append (nums K.N (o K v L)) (block κ (2 * v.ex + 1))
      ∙ ap₂ (λ (x y : ℕ). x + y) (nums-length K.N (o K v L)) (block-length κ (2 * v.ex + 1))

  pub α_lt : 0 < K.q → Sized K v → (k : ℕ) → k < K.m → (i : ℕ) → α K v k i < K.q
  unfolding α
  α_lt p z k h i = pick_below (is_hidden K v i) (v.αh k) (sub K.q (s K v k i) (b K v k i)) K.q (z.α_below k h) (sub-lt p _ _)

  pub o_lt : 0 < K.q → Sized K v → (L : List ℕ) (i : ℕ) → o K v L i < K.q
  unfolding o
  o_lt p z L i = pick_below (is_hidden K v i) v.oh (out K.q (run K v L) (αsum K v) i) K.q z.o_below (out-lt p (run K v L) (αsum K v) i)

-- The inputs of the list hashes.
module _ (K : Key) (seen : ℕ → View) where
  pub hΓin_length : length (hΓin K seen) ≡ K.M * 32
  unfolding hΓin input
  hΓin_length = cat-length K.M 32 (λ e. H (hin K (seen e))) (λ e h. sha256-length (hin K (seen e)))

-- f of each kept execution, 32 bytes each
pub kept-length : (K : Key) (E : List ℕ) (f : ℕ → List ℕ) → ((e : ℕ) → length (f e) ≡ 32)
    → length (kept K E f) ≡ 32 * count K.M (λ e. not (opened E e))
unfolding kept
kept-length K E f h = cat-length-count K.M 32 (λ e. not (opened E e)) (λ e. pick (opened E e) [] (f e)) (λ e l. one e (opened E e))
  where
    one : (e : ℕ) (t : Bool) → length (pick t [] (f e)) ≡ pick (not t) 32 0
    one e true = refl
    one e false = h e

pub hπin_length : (K : Key) (seen : ℕ → View) (E κ : List ℕ) → length (hπin K seen E κ) ≡ 32 * count K.M (λ e. not (opened E e))
unfolding hπin input
hπin_length K seen E κ = kept-length K E (λ e. H (Πin K (seen e) κ)) (λ e. sha256-length (Πin K (seen e) κ))

pub hψin_length : (K : Key) (seen : ℕ → View) (E κ L : List ℕ) → length (hψin K seen E κ L) ≡ 32 * count K.M (λ e. not (opened E e))
unfolding hψin input
hψin_length K seen E κ L = kept-length K E (λ e. H (Ψin K (seen e) κ L)) (λ e. sha256-length (Ψin K (seen e) κ L))

-- ---- a kept execution of a transcript
module _ (K : Key) (P : Parts) (g : GoodParts K P) (e : ℕ) (h : e < K.M) (c : opened P.p2 e ≡ false) where
  size_is : reply_size K P e ≡ 16 * depth K + 32 + 4 * given_count K P e
  unfolding reply_size
  size_is = pick_false (opened P.p2 e) 0 (16 * depth K + 32 + 4 * given_count K P e) c

  reply-long : length (reply_at K P e) ≡ reply_size K P e
  unfolding reply_at
  reply-long =
      let z : suc e + (K.M - suc e) ≡ K.M = omega arith in
      part_length P.p7 (16 + sum e (reply_size K P)) (reply_size K P e)
      (omega (
        arith,
        g.long7,
        sum_suc e (reply_size K P),
        sum_grows (reply_size K P) (suc e) (K.M - suc e),
        ap (λ (j : ℕ). sum j (reply_size K P)) z,
      ))

  pub kept-sized : Sized K (kept_view K P e)
  unfolding kept_view given_count
  kept-sized =
      record {
        seeds = λ i.
            reopened-length (depth K) (hidden K P e) (take (16 * depth K) (reply_at K P e)) i
            (length-take-le (16 * depth K) (reply_at K P e) (omega (arith, reply-long, size_is)));
        Γ_long = part_length (reply_at K P e) (16 * depth K) 32 (omega (arith, reply-long, size_is));
        α_below = λ k l. g.below e h c k (omega arith);
        o_below = g.below e h c K.m (omega arith);
      }

  pub view_kept : view K P e ≡ kept_view K P e
  unfolding view
  view_kept = rw c
