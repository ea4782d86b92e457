-- The lengths of the four messages and of their parts.
-- Assumes nothing.
use Prim.Native.Nat.{ℕ, suc, ◌+◌, ◌*◌, ◌<◌, ◌≤◌}
use mathlib.Core.Path.{◌≡◌, refl, sym, ◌∙◌, ap}
use mathlib.Core.Bool.{Bool, true, false, not}
use mathlib.Core.List.{List, [], ◌++◌}
use native.Mathlib.Omega.{arith}
use borrow.Author.Tests.{eqb-true, leb-true}
use lib.Dec.{eqb, leb}
use lib.ListN.{length, get_or, length-append}
use Rattle.lists.specs.Index.{pick, cat, count}
use Rattle.lists.specs.Bytes.{le4, nums}
use Rattle.lists.specs.CatLaws.{cat-length_by, cat-length-count, part_length, nums-length, le4-length}
use Rattle.lists.specs.TestLaws.{every-at, holds-each}
use Rattle.numbers.specs.Sum.{sum}
use Rattle.numbers.proofs.Sum.{sum_zero, sum_suc, sum_bound}
use Rattle.sha_core.specs.Digest.{sha256-length}
use Rattle.tree.specs.Tree.{opening}
use Rattle.tree.specs.TreeLaws.{opening-length}
use Rattle.protocol.specs.Key.{Key, depth, kept_count}
use Rattle.protocol.specs.Shares.{H, View, α, Γ, Γin, Ωin, o}
use Rattle.protocol.specs.Prover.{opened, place, kept, hidden_of, reply, master, prover_view, hπin, message1, message3, message5, message7, good_e, good_hidden}
use Rattle.protocol.specs.Accepts.{GoodKey}
use Rattle.protocol.proofs.KeyFacts.{depth_most}
use Rattle.protocol.proofs.Opened.{opened-count, kept-count, place-lt}
use Rattle.protocol.proofs.HonestSum.{Γ_open, dealt-whole}

pub message1-length : (K : Key) (seeds : List ℕ) → length (message1 K seeds) ≡ 32
unfolding message1
message1-length K seeds = sha256-length _

pub message5_length : (K : Key) (seeds secret E κ L : List ℕ) → length (message5 K seeds secret E κ L) ≡ 32
unfolding message5
message5_length K seeds secret E κ L = sha256-length _

-- A master seed.
pub master_length : (K : Key) (seeds secret : List ℕ) → length seeds ≡ 16 * K.M → (e : ℕ) → e < K.M → length (master K seeds secret e) ≡ 16
master_length K seeds secret long e h = part_length seeds (16 * e) 16 (omega arith)

-- Items of one length of the opened executions before n, and of the kept ones.
pub opened-length : (E : List ℕ) (n w : ℕ) (f : ℕ → List ℕ) → ((e : ℕ) → e < n → length (f e) ≡ w)
    → length (cat n (λ e. pick (opened E e) (f e) [])) ≡ w * count n (opened E)
opened-length E n w f h = cat-length-count n w (opened E) _ (λ e y. go (opened E e) (f e) (h e y))
  where
    go : (t : Bool) (x : List ℕ) → length x ≡ w → length (pick t x []) ≡ pick t w 0
    go true x k = k
    go false x k = refl

pub kept-length : (E : List ℕ) (n w : ℕ) (f : ℕ → List ℕ) → ((e : ℕ) → e < n → length (f e) ≡ w)
    → length (cat n (λ e. pick (opened E e) [] (f e))) ≡ w * count n (λ e. not (opened E e))
kept-length E n w f h = cat-length-count n w (λ e. not (opened E e)) _ (λ e y. go (opened E e) (f e) (h e y))
  where
    go : (t : Bool) (x : List ℕ) → length x ≡ w → length (pick t [] x) ≡ pick (not t) w 0
    go true x k = refl
    go false x k = k

pub message3_length : (K : Key) (seeds secret E κ : List ℕ) → length seeds ≡ 16 * K.M → good_e K E ≡ true
    → length (message3 K seeds secret E κ) ≡ 16 * K.τ + 32 * kept_count K + 32
unfolding message3 kept
message3_length K seeds secret E κ long g =
    length-append (masters ++ omegas) (H (hπin K (prover_view K seeds secret) E κ))
    ∙ omega (
      arith,
      length-append masters omegas,
      opened-length E K.M 16 (master K seeds secret) (master_length K seeds secret long),
      kept-length E K.M 32 (λ e. H (Ωin K (prover_view K seeds secret e))) (λ e h. sha256-length _),
      ap (λ x. 16 * x) (opened-count K E g),
      ap (λ x. 32 * x) (kept-count K E g),
      sha256-length (hπin K (prover_view K seeds secret) E κ),
    )
  where
    masters : List ℕ
    masters = cat K.M (λ e. pick (opened E e) (master K seeds secret e) [])

    omegas : List ℕ
    omegas = cat K.M (λ e. pick (opened E e) [] (H (Ωin K (prover_view K seeds secret e))))

pub hidden_length : (K : Key) (hidden : List ℕ) → good_hidden K hidden ≡ true → length hidden ≡ kept_count K
unfolding good_hidden
hidden_length K hidden k = eqb-true (length hidden) (kept_count K) (holds-each _ k).0

-- The hidden party of a kept execution is one of N.
pub hidden_lt : (K : Key) (E hidden : List ℕ) → good_e K E ≡ true → good_hidden K hidden ≡ true
    → (e : ℕ) → e < K.M → opened E e ≡ false → hidden_of E hidden e < K.N
unfolding hidden_of good_hidden
hidden_lt K E hidden g k e h c =
    let inside : place E e < length hidden =
    omega (arith, place-lt K E g e h c, hidden_length K hidden k) in
    let least : 1 ≤ get_or hidden (place E e) 0 =
    leb-true _ _ (every-at (length hidden) (λ j. leb 1 (get_or hidden j 0)) (holds-each _ k).1.0 (place E e) inside) in
    let most : get_or hidden (place E e) 0 ≤ K.N =
    leb-true _ _ (every-at (length hidden) (λ j. leb (get_or hidden j 0) K.N) (holds-each _ k).1.1.0 (place E e) inside) in
    omega arith

-- A reply: opened seeds, Γ, m numbers α and one o; where party N isn't hidden, 2m numbers more.
unfoldable pub reply_bytes : Key → ℕ → ℕ
reply_bytes K h = 16 * depth K + 32 + 4 * (K.m + 1 + pick (eqb (suc h) K.N) 0 (2 * K.m))

five-length : (a b c d e : List ℕ) → length (a ++ b ++ c ++ d ++ e) ≡ length a + length b + length c + length d + length e
five-length a b c d e = simp length-append

-- What follows where party N isn't hidden.
pub tail-length : (t : Bool) (m : ℕ) (f g : ℕ → ℕ) → length (pick t [] (nums m f ++ nums m g)) ≡ 4 * pick t 0 (2 * m)
tail-length true m f g = refl
tail-length false m f g = length-append (nums m f) (nums m g) ∙ omega (arith, nums-length m f, nums-length m g)

pub Γ_length : (K : Key) (v : View) (h : ℕ) → v.hid ≡ K.N → h < K.N → length (Γ K v h) ≡ 32
Γ_length K v h whole inside = ap length (Γ_open K v whole h inside) ∙ sha256-length (Γin K v h)

pub reply-length : (K : Key) (v : View) (seed L : List ℕ) (h : ℕ) → v.hid ≡ K.N → h < K.N → length (reply K v seed L h) ≡ reply_bytes K h
unfolding reply reply_bytes
reply-length K v seed L h whole inside =
    five-length (opening (depth K) seed h) (Γ K v h) (nums K.m (λ k. α K v k h)) (le4 (o K v L h)) _
    ∙ omega (
      arith,
      opening-length (depth K) seed h,
      Γ_length K v h whole inside,
      nums-length K.m (λ k. α K v k h),
      le4-length (o K v L h),
      tail-length (eqb (suc h) K.N) K.m v.d_n v.s_n,
    )

-- What a reply takes in part 7, and the replies of the executions before n.
unfoldable pub replies_bytes : Key → List ℕ → List ℕ → ℕ → ℕ
replies_bytes K E hidden n = sum n (λ e. pick (opened E e) 0 (reply_bytes K (hidden_of E hidden e)))

-- A reply takes at most 1652 bytes.
pub reply_most : (K : Key) → GoodKey K → (h : ℕ) → reply_bytes K h ≤ 1652
unfolding reply_bytes
reply_most K G h = go (eqb (suc h) K.N)
  where
    go : (t : Bool) → 16 * depth K + 32 + 4 * (K.m + 1 + pick t 0 (2 * K.m)) ≤ 1652
    go true = omega (arith, depth_most K G.N, G.m_most)
    go false = omega (arith, depth_most K G.N, G.m_most)

pub replies_most : (K : Key) → GoodKey K → (E hidden : List ℕ) → replies_bytes K E hidden K.M ≤ K.M * 1652
unfolding replies_bytes
replies_most K G E hidden = sum_bound K.M 1652 (λ e h. go (opened E e) (reply_most K G (hidden_of E hidden e)))
  where
    go : (t : Bool) {n : ℕ} → n ≤ 1652 → pick t 0 n ≤ 1652
    go true y = omega arith
    go false y = y

module _ (K : Key) (seeds secret E L hidden : List ℕ) (gE : good_e K E ≡ true) (g_h : good_hidden K hidden ≡ true) where
  abbrev pub reply_of : ℕ → List ℕ
  reply_of e = reply K (prover_view K seeds secret e) (master K seeds secret e) L (hidden_of E hidden e)

  pub reply_of_length : (e : ℕ) → e < K.M → opened E e ≡ false → length (reply_of e) ≡ reply_bytes K (hidden_of E hidden e)
  unfolding prover_view
  reply_of_length e h c = reply-length K _ _ L _ (dealt-whole K e _ _) (hidden_lt K E hidden gE g_h e h c)

  pub replies_length_lem : (n : ℕ) → n ≤ K.M → length (cat n (λ e. pick (opened E e) [] (reply_of e))) ≡ replies_bytes K E hidden n
  unfolding replies_bytes
  replies_length_lem n h =
      cat-length_by n _ (λ i. sum i (λ e. pick (opened E e) 0 (reply_bytes K (hidden_of E hidden e)))) (sum_zero _)
      (λ i y. sum_suc i _ ∙ ap (λ x. sum i (λ e. pick (opened E e) 0 (reply_bytes K (hidden_of E hidden e))) + x) (one i (omega arith) (opened E i) refl))
    where
      one : (e : ℕ) → e < K.M → (t : Bool) → opened E e ≡ t → pick t 0 (reply_bytes K (hidden_of E hidden e)) ≡ length (pick t [] (reply_of e))
      one e y true c = refl
      one e y false c = sym (reply_of_length e y c)

  pub message7_length : (κ : List ℕ) → length κ ≡ 16 → length (message7 K seeds secret E κ L hidden) ≡ 16 + replies_bytes K E hidden K.M
  unfolding message7 kept
  message7_length κ long = length-append κ _ ∙ omega (arith, replies_length_lem K.M (omega arith))
