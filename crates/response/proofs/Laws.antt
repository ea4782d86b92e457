-- The sums of α from the columns of s and b, the outputs of an execution that was dealt, and its reply.
-- Assumes nothing.
use Prim.Native.Nat.{ℕ, suc, ◌+◌, ◌*◌, ◌-◌, ◌%◌, ◌<◌, ◌≤◌}
use mathlib.Core.Path.{◌≡◌, refl, sym, ◌∙◌, ap, ap₂}
use mathlib.Core.Bool.{Bool, true, false}
use mathlib.Core.List.{List, [], ◌∷◌, ◌++◌, append-nil, append_assoc}
use native.Mathlib.Nat.{zero-add, mod-lt}
use native.Mathlib.Omega.{arith}
use borrow.Author.Tests.{eq-eqb, ne_eqb}
use lib.Dec.{eqb}
use lib.ListN.{length, get_or, take, drop, drop_of_length-le, length-append, get_or-append}
use lib.Seq.{take_at, drop_at, drop-drop}
use Rattle.lists.specs.Written.{two_parts}
use Rattle.lists.specs.Tab.{tab, tab-at, tab_ext, tab-length, Filling}
use Rattle.lists.specs.Index.{pick, part}
use Rattle.lists.specs.Bytes.{le4, words, nums}
use Rattle.lists.specs.CatLaws.{nums_ext, nums_split}
use Rattle.lists.specs.TestLaws.{pick_false}
use Rattle.numbers.specs.Mod.{sub}
use Rattle.numbers.proofs.Mod.{sub-lt, sub_is, sub_cong, cong_trans, cong_sym, cong_eq, cong_mod, cong_same}
use Rattle.numbers.specs.Sum.{sum}
use Rattle.numbers.proofs.Sum.{sum_same, sum_cong, sum-add, sum-mul}
use Rattle.tree.specs.Tree.{opening}
use Rattle.protocol.specs.Key.{Key, depth}
use Rattle.protocol.specs.Shares.{View, b, s, α, αsum, o, Γ, dealt}
use Rattle.protocol.specs.Prover.{reply}
use Rattle.execution.proofs.Held.{d_last, s_last}
use Rattle.execution.specs.Shown.{Sized, Seeded, place_of}
use Rattle.execution.specs.Prepared.{Dealt, last_count}
use Rattle.execution.proofs.Laws.{inside}
use Rattle.views.specs.Seen.{ForH}
use Rattle.views.proofs.Laws.{words-part, gamma_is}
use Rattle.outputs.specs.Stated.{Stated, output_at, output_ext, output_is}
use Rattle.response.specs.Held.{Held, alpha_sum}
use Rattle.response.specs.Replies.{alpha_share, last_numbers, numbers_of, reply_of, DealtReply}

-- a sum of differences is the difference of the sums
pub sum-sub : {q : ℕ} → 0 < q → (n : ℕ) (f g : ℕ → ℕ) → sum n (λ i. sub q (f i) (g i)) % q ≡ sub q (sum n f) (sum n g)
sum-sub {q = Prim.Native.Nat.zero} p n f g = elim p [ ]
sum-sub {q = suc c} p n f g =
    cong_same (mod-lt _ p) (sub-lt p (sum n f) (sum n g))
    (cong_trans (cong_mod _ _)
    (cong_trans (sum_cong n (λ i h. sub_is c (f i) (g i)))
    (cong_trans (cong_eq (sum-add n f (λ i. c * g i) ∙ ap (λ x. sum n f + x) (sum-mul n c g))) (cong_sym (sub_is c (sum n f) (sum n g))))))

-- what the code computes, with reduced numbers
pub alpha_sum_is : (q S B s b : ℕ) → 0 < q → s ≡ S % q → b ≡ B % q → sub q s b ≡ sub q S B
alpha_sum_is q S B s b pos es eb =
    cong_same (sub-lt pos s b) (sub-lt pos S B)
    (sub_cong pos (cong_trans (cong_eq es) (cong_mod q S)) (cong_trans (cong_eq eb) (cong_mod q B)))

α_open : (K : Key) (v : View) (k i : ℕ) → (i ≡ v.hid → ⊥) → α K v k i ≡ sub K.q (s K v k i) (b K v k i)
unfolding α
α_open K v k i other = pick_false (eqb i v.hid) _ _ (ne_eqb i v.hid other)

module _ {q n m N e : ℕ} {entries work : List ℕ} {K : Key} {v : View} (so : Held q n m N e entries work K v) where
  open_all : (i : ℕ) → i < K.N → i ≡ v.hid → ⊥
  open_all i h z = let no : ⊥ = omega (arith, z, so.hidden) in no

  -- α(k, i) from the work list
  pub alpha_is : (i k : ℕ) → i < N → k < m → alpha_share q m work i k ≡ α K v k i
  unfolding alpha_share
  alpha_is i k y h =
      let below : k < K.m = omega (arith, so.sized.columns) in
      let party : i < K.N = omega (arith, so.sized.parties) in
      let is_s : get_or work (place_of m i (2 * m + k)) 0 ≡ s K v k i =
      ap (λ x. get_or work (place_of x i (2 * x + k)) 0) (sym so.sized.columns) ∙ so.ss.at k i below party (open_all i party) in
      let is_b : get_or work (place_of m i k) 0 ≡ b K v k i =
      ap₂ (λ x y. get_or work (place_of x i y) 0) (sym so.sized.columns) (sym (zero-add k)) ∙ so.bs.at k i below party (open_all i party) in
      ap₂ (λ x y. sub q x y) is_s is_b
      ∙ ap (λ x. sub x (s K v k i) (b K v k i)) (sym so.sized.modulus)
      ∙ sym (α_open K v k i (open_all i party))

  -- the sums that the code leaves are those of α
  pub sum_is : 0 < q → (k : ℕ) → k < m → alpha_sum q m N work k ≡ αsum K v k
  unfolding alpha_sum αsum alpha_share
  sum_is p k h =
      sym (sum-sub p N (λ i. get_or work (place_of m i (2 * m + k)) 0) (λ i. get_or work (place_of m i k) 0))
      ∙ ap (λ x. x % q) (sum_same (sym so.sized.parties) (λ i y. alpha_is i k y h))
      ∙ ap (λ p. sum K.N (α K v k) % p) (sym so.sized.modulus)

  held_stated : 0 < q → Stated q n m N N e 0 entries (tab m (alpha_sum q m N work)) work K v
  held_stated p =
      record {
        sized = so.sized;
        rows = so.rows;
        entry = so.entry;
        ex = so.ex;
        hidden = so.hidden ∙ so.sized.parties;
        shown = so.oh;
        bs = so.bs;
        ds = so.ds;
        ss = so.ss;
        sums = λ k h. let below : k < m = omega (arith, so.sized.columns) in tab-at m (alpha_sum q m N work) k below ∙ sum_is p k below;
      }

  -- the outputs are document 01's
  pub held-outputs : 0 < q → (L : List ℕ) {outs : List ℕ} → outs ≡ tab N (output_at q n m N N e 0 L entries (tab m (alpha_sum q m N work)) work)
      → outs ≡ tab N (o K v L)
  held-outputs p L is = is ∙ tab_ext N _ _ (output_is (held_stated p) L)

-- the outputs fill their list, and of the sums that they take only those of α count
pub fills : (q n m N e : ℕ) (L entries work before : List ℕ) {w : ℕ} {sums after : List ℕ} → Filling w sums m (alpha_sum q m N work) → length before ≡ N
    → after ≡ tab N (output_at q n m N N e 0 L entries sums work) ++ drop N before
    → after ≡ tab N (output_at q n m N N e 0 L entries (tab m (alpha_sum q m N work)) work)
fills q n m N e L entries work before {sums = sums} f long is =
    is
    ∙ (ap (λ (x : List ℕ). tab N (output_at q n m N N e 0 L entries sums work) ++ x) (drop_of_length-le before {i = N} (omega (arith, long)))
    ∙ (append-nil (tab N (output_at q n m N N e 0 L entries sums work))
    ∙ tab_ext N _ _ (λ i h. output_ext q n m N N e 0 L entries sums (tab m (alpha_sum q m N work)) work (λ k y. f.filled k y ∙ sym (tab-at m (alpha_sum q m N work) k y)) i)))

-- an entry of a table that stands in front
pub front_at : (n : ℕ) (f : ℕ → ℕ) (ys rest : List ℕ) (i : ℕ) → i < n → ys ≡ tab n f → get_or (ys ++ rest) i 0 ≡ f i
front_at n f ys rest i h e = rw e (get_or-append (tab n f) rest 0 i (rw (tab-length n f) h) ∙ tab-at n f i h)

-- ---- a list that is written in three parts, each where the one before it ends
second_part : (out a c : List ℕ) (x y : ℕ) → length a ≡ x
    → take x (a ++ drop x out) ++ (c ++ drop (x + y - x) (drop x (a ++ drop x out))) ≡ (a ++ c) ++ drop (x + y) out
second_part out a c x y h =
    let z : x + y - x ≡ y = omega arith in
    rw (take_at a (drop x out) x h, drop_at a (drop x out) x h, z, drop-drop y x out) (sym (append_assoc a c (drop (x + y) out)))

rest_long : (out xs : List ℕ) (z : ℕ) → length xs ≡ z → length (drop z out) ≤ length (xs ++ drop z out) - z
rest_long out xs z h = omega (arith, length-append xs (drop z out))

join-part : (out a c e : List ℕ) (x y n : ℕ) → length a ≡ x → length c ≡ y → (o : List ℕ) → o ≡ (a ++ c) ++ drop (x + y) out → n ≡ length o - (x + y)
    → take (x + y) o ++ (e ++ drop n (drop (x + y) o)) ≡ (a ++ c) ++ e
join-part out a c e x y n la lc o is en =
    let both : length (a ++ c) ≡ x + y = length-append a c ∙ omega arith in
    rw (is) (two_parts out (a ++ c) e (x + y) n both (omega (arith, rest_long out (a ++ c) (x + y) both, en, ap length is)))

pub three_parts : (out a c e : List ℕ) (x y : ℕ) {a' c' e' : List ℕ} → length a ≡ x → length c ≡ y → a ≡ a' → c ≡ c' → e ≡ e'
    → (let p = take x (a ++ drop x out) ++ (c ++ drop (x + y - x) (drop x (a ++ drop x out))) in
    take (x + y) p ++ (e ++ drop (length p - (x + y)) (drop (x + y) p)) ≡ (a' ++ c') ++ e')
three_parts out a c e x y la lc ea ec ee =
    join-part out a c e x y _ la lc _ (second_part out a c x y la) refl ∙ ap₂ (λ u w. u ++ w) (ap₂ (λ u w. u ++ w) ea ec) ee

-- ---- party N's d and s
empty : (l : List ℕ) → length l ≡ 0 → l ≡ []
empty [] h = refl
empty (x ∷ l) h = absurd (omega arith)

module _ (m N h : ℕ) (work : List ℕ) where
  pub last_none : (out : List ℕ) → h + 1 ≡ N → length out ≡ 4 * last_count m N h → out ≡ last_numbers m N work h
  unfolding last_numbers
  last_none out e long =
      let z : suc h ≡ N = omega arith in
      let none : length out ≡ 4 * 0 = rw (eq-eqb (suc h) N z) at long in
      rw (eq-eqb (suc h) N z) (empty out (omega arith))

  pub last_some : (out : List ℕ) → (h + 1 ≡ N → ⊥)
      → out ≡ words (take (3 * m * (N - 1) + m + 2 * m - (3 * m * (N - 1) + m)) (drop (3 * m * (N - 1) + m) work)) → out ≡ last_numbers m N work h
  unfolding last_numbers
  last_some out other is =
      let z : 3 * m * (N - 1) + m + 2 * m - (3 * m * (N - 1) + m) ≡ 2 * m = omega arith in
      rw (ne_eqb (suc h) N (λ y. other (omega arith))) (is ∙ ap (λ x. words (take x (drop (3 * m * (N - 1) + m) work))) z)

-- ---- the reply
module _ {q n m N e : ℕ} {entries leaves work : List ℕ} {K : Key} {v : View} (so : Held q n m N e entries work K v) (seeds : Seeded K v leaves) (some : 1 ≤ N) (long : 3 * m * N ≤ length work) where
  last : suc (K.N - 1) ≡ K.N
  last = omega (arith, so.sized.parties)

  d_n_at : (k : ℕ) → k < m → v.d_n k ≡ get_or work (place_of m (N - 1) (m + k)) 0
  d_n_at k h =
      sym (d_last K v k (K.N - 1) last)
      ∙ (sym (so.ds.at k (K.N - 1) (omega (arith, so.sized.columns)) (omega (arith, last)) (open_all so (K.N - 1) (omega (arith, last))))
      ∙ ap₂ (λ (x y : ℕ). get_or work (place_of x (y - 1) (x + k)) 0) so.sized.columns so.sized.parties)

  s_n_at : (k : ℕ) → k < m → v.s_n k ≡ get_or work (place_of m (N - 1) (2 * m + k)) 0
  s_n_at k h =
      sym (s_last K v k (K.N - 1) last)
      ∙ (sym (so.ss.at k (K.N - 1) (omega (arith, so.sized.columns)) (omega (arith, last)) (open_all so (K.N - 1) (omega (arith, last))))
      ∙ ap₂ (λ (x y : ℕ). get_or work (place_of x (y - 1) (2 * x + k)) 0) so.sized.columns so.sized.parties)

  for_h : ForH m N N e [] leaves work K v
  for_h =
      record {
        columns = so.sized.columns;
        parties = so.sized.parties;
        ex = so.ex;
        hidden = so.hidden ∙ so.sized.parties;
        Γh = λ h. absurd (omega arith);
        seeds = seeds;
        d_n = λ other k h. d_n_at k h;
      }

  d_and_s : words (part work (3 * m * (N - 1) + m) (2 * m)) ≡ nums m v.d_n ++ nums m v.s_n
  d_and_s =
      let two : 2 * m ≡ m + m = omega arith in
      words-part work (3 * m * (N - 1) + m) (2 * m) (omega (arith, inside m N (N - 1) (omega arith)))
      ∙ (ap (λ x. nums x (λ k. get_or work (3 * m * (N - 1) + m + k) 0)) two
      ∙ (nums_split m m (λ k. get_or work (3 * m * (N - 1) + m + k) 0)
      ∙ ap₂ (λ x y. x ++ y)
      (nums_ext m (λ k h. let w : 3 * m * (N - 1) + m + k ≡ 3 * m * (N - 1) + (m + k) = omega arith in ap (λ x. get_or work x 0) w ∙ sym (d_n_at k h)))
      (nums_ext m (λ k h. let w : 3 * m * (N - 1) + m + (m + k) ≡ 3 * m * (N - 1) + (2 * m + k) = omega arith in ap (λ x. get_or work x 0) w ∙ sym (s_n_at k h)))))

  last_is : (h : ℕ) → last_numbers m N work h ≡ pick (eqb (suc h) K.N) [] (nums K.m v.d_n ++ nums K.m v.s_n)
  unfolding last_numbers
  last_is h = rw (so.sized.parties, so.sized.columns) (go (eqb (suc h) N))
    where
      go : (t : Bool) → pick t [] (words (part work (3 * m * (N - 1) + m) (2 * m))) ≡ pick t [] (nums m v.d_n ++ nums m v.s_n)
      go true = refl
      go false = d_and_s

  pub reply_is : {D : ℕ} (master L : List ℕ) (h r : ℕ) → depth K ≡ D → h < N → r ≡ o K v L h → reply_of q m N D e master leaves work h r ≡ reply K v master L h
  unfolding reply_of numbers_of reply
  reply_is {D} master L h r deep inside-N is =
      let alphas : nums m (alpha_share q m work h) ≡ nums K.m (λ k. α K v k h) =
      nums_ext m (λ k y. alpha_is so h k inside-N y) ∙ ap (λ x. nums x (λ k. α K v k h)) (sym so.sized.columns) in
      rw (← deep, gamma_is for_h long h inside-N, alphas, is, last_is h)
      (sym
      (append_assoc (opening (depth K) master h ++ Γ K v h ++ nums K.m (λ k. α K v k h)) (le4 (o K v L h)) (pick (eqb (suc h) K.N) [] (nums K.m v.d_n ++ nums K.m v.s_n))
      ∙ (append_assoc (opening (depth K) master h ++ Γ K v h) (nums K.m (λ k. α K v k h)) (le4 (o K v L h) ++ pick (eqb (suc h) K.N) [] (nums K.m v.d_n ++ nums K.m v.s_n))
      ∙ ap (λ x. opening (depth K) master h ++ Γ K v h ++ x)
      (sym (append_assoc (nums K.m (λ k. α K v k h)) (le4 (o K v L h)) (pick (eqb (suc h) K.N) [] (nums K.m v.d_n ++ nums K.m v.s_n)))))))

-- what was dealt is held
pub dealt-held : {q n m N D e : ℕ} {master secret leaves work entries : List ℕ} → Dealt q m N D master secret leaves work → (K : Key) → Sized q m N K → K.n ≡ n
    → ((j : ℕ) → j < n * (m + 1) → K.entry j ≡ get_or entries j 0) → depth K ≡ D
    → Held q n m N e entries work K (dealt K e master (λ k. get_or secret k 0))
unfolding dealt
dealt-held {e} so K sized rows entry deep =
    let S = so.shown K e sized deep in
    record { sized = sized; rows = rows; entry = entry; ex = refl; hidden = refl; oh = refl; bs = S.bs; ds = S.ds; ss = S.ss }

pub dealt-reply_is : {q n m N D e h : ℕ} {master secret leaves work entries r L : List ℕ} → Dealt q m N D master secret leaves work
    → ((K : Key) (v : View) → depth K ≡ D → Held q n m N e entries work K v → Seeded K v leaves → r ≡ reply K v master L h)
    → DealtReply q n m N D e h master secret L entries r
dealt-reply_is {e} {master} {secret} so f =
    record {
      is = λ K sized rows entry deep.
          f K (dealt K e master (λ k. get_or secret k 0)) deep (dealt-held so K sized rows entry deep) (so.shown K e sized deep).seeds;
    }
