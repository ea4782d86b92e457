-- Part 7 as code walks it: what its lengths and numbers depend on, and one kept execution more.
-- Assumes nothing.
use Rattle.std.specs.Prelude.{ℕ, suc, ◌+◌, ◌*◌, ◌-◌, ◌≤◌, ◌<◌, ◌≡◌, refl, Bool, true, false, not, List, [], ltb, get_or, take, drop}
use Rattle.std.proofs.Math.Path.{sym}
use Rattle.std.proofs.Common.{ap, ◌∙◌, subst, arith, eq-eqb, ne_eqb}
use Rattle.lists.specs.Index.{pick, every}
use Rattle.lists.specs.Bytes.{num}
use Rattle.lists.specs.TestLaws.{count_zero, count_hit, count_miss}
use Rattle.lists.specs.CatLaws.{drop-part}
use Rattle.numbers.specs.Sum.{sum}
use Rattle.numbers.proofs.Sum.{sum_same, sum_suc, sum_more, sum_grows}
use Rattle.protocol.specs.Key.{Key, depth}
use Rattle.protocol.specs.Prover.{opened, place, hidden_of}
use Rattle.protocol.specs.Transcript.{Parts}
use Rattle.protocol.specs.Judge.{hidden, given_count, reply_size, reply_at, given, good_numbers}
use Rattle.key.specs.declared.sizes.Numbers.{Numbers}
use Rattle.key.specs.Numbers.{Of, Alike, alike_of, of_with, key_with}

-- Parts of which only E, the hidden list and part 7 are known.
abbrev pub parts_with : List ℕ → List ℕ → List ℕ → Parts
parts_with e h r = record { p1 = []; p2 = e; p3 = []; p4 = []; p5 = []; p6 = h; p7 = r }

-- The length and the numbers of part 7 depend on the key's numbers and on these parts alone, whatever the numbers are.
module _ (J K : Key) (same : Alike J K) where
  numbered : record { q = J.q; n = J.n; m = J.m; N = J.N; M = J.M; τ = J.τ; entry = K.entry } ≡ K
  numbered =
      λ i.
      record { q = same.q_same i; n = same.n_same i; m = same.m_same i; N = same.parties_same i; M = same.executions_same i; τ = same.τ_same i; entry = K.entry }

  pub size_alike : (P : Parts) (e h r : List ℕ) → P.p2 ≡ e → P.p6 ≡ h → (x : ℕ) → reply_size J (parts_with e h r) x ≡ reply_size K P x
  unfolding reply_size given_count hidden depth
  size_alike P e h r a b x = rw (← a, ← b) (ap (λ (L : Key). reply_size L P x) numbered)

  pub length_alike :
      (P : Parts) (e h : List ℕ) → P.p2 ≡ e → P.p6 ≡ h
      → 16 + sum J.M (reply_size J (parts_with e h [])) ≡ 16 + sum K.M (reply_size K P)
  length_alike P e h a b = ap (λ (s : ℕ). 16 + s) (sum_same same.executions_same (λ x y. size_alike P e h [] a b x))

  pub numbers_alike :
      (P : Parts) (e h r : List ℕ) → P.p2 ≡ e → P.p6 ≡ h → P.p7 ≡ r → good_numbers J (parts_with e h r) ≡ good_numbers K P
  unfolding good_numbers given reply_at reply_size given_count hidden depth
  numbers_alike P e h r a b c = rw (← a, ← b, ← c) (ap (λ (L : Key). good_numbers L P) numbered)

-- The same for the numbers that code carries.
module _ (k : Numbers) (K : Key) (of : Of k K) where
  pub size_of :
      (P : Parts) (e h r : List ℕ) → P.p2 ≡ e → P.p6 ≡ h → (x : ℕ) → reply_size (key_with k []) (parts_with e h r) x ≡ reply_size K P x
  size_of = size_alike (key_with k []) K (alike_of (of_with k []) of)

  pub length-of :
      (P : Parts) (e h : List ℕ) → P.p2 ≡ e → P.p6 ≡ h
      → 16 + sum k.executions (reply_size (key_with k []) (parts_with e h [])) ≡ 16 + sum K.M (reply_size K P)
  length-of = length_alike (key_with k []) K (alike_of (of_with k []) of)

  pub numbers_of :
      (P : Parts) (e h r : List ℕ) → P.p2 ≡ e → P.p6 ≡ h → P.p7 ≡ r → good_numbers (key_with k []) (parts_with e h r) ≡ good_numbers K P
  numbers_of = numbers_alike (key_with k []) K (alike_of (of_with k []) of)

-- The place of the next execution among the kept.
pub place_opened : (E : List ℕ) (x : ℕ) → opened E x ≡ true → place E (x + 1) ≡ place E x
unfolding place
place_opened E x e = count_miss x (λ j. not (opened E j)) (ap not e)

pub place_kept : (E : List ℕ) (x : ℕ) → opened E x ≡ false → place E (x + 1) ≡ place E x + 1
unfolding place
place_kept E x e = count_hit x (λ j. not (opened E j)) (ap not e)

pub place-first : (E : List ℕ) → place E 0 ≡ 0
unfolding place
place-first E = count_zero (λ j. not (opened E j))

-- What part 7 holds of execution x, whose hidden party is h from 1 on, by whether that is party N.
module _ (K : Key) (P : Parts) (x h : ℕ) (most : 2 ≤ K.N) (is : get_or P.p6 (place P.p2 x) 0 ≡ h) where
  pub count-last : h ≡ K.N → K.m + 1 ≡ given_count K P x
  unfolding given_count hidden hidden_of
  count-last e =
      sym (ap (λ (b : Bool). K.m + 1 + pick b 0 (2 * K.m)) (eq-eqb (suc (get_or P.p6 (place P.p2 x) 0 - 1)) K.N (omega arith)) ∙ (omega arith))

  pub count_other : (h ≡ K.N → ⊥) → K.m + 1 + 2 * K.m ≡ given_count K P x
  unfolding given_count hidden hidden_of
  count_other n =
      sym (ap (λ (b : Bool). K.m + 1 + pick b 0 (2 * K.m)) (ne_eqb (suc (get_or P.p6 (place P.p2 x) 0 - 1)) K.N (λ e. n (omega arith))))

module _ (K : Key) (P : Parts) (x : ℕ) where
  pub size_opened : opened P.p2 x ≡ true → reply_size K P x ≡ 0
  unfolding reply_size
  size_opened e = rw e

  pub size_kept : opened P.p2 x ≡ false → reply_size K P x ≡ 16 * depth K + 32 + 4 * given_count K P x
  unfolding reply_size
  size_kept e = rw e

  -- Where the next reply begins.
  pub at-opened : (at : ℕ) → at ≡ 16 + sum x (reply_size K P) → opened P.p2 x ≡ true → at ≡ 16 + sum (x + 1) (reply_size K P)
  at-opened at e o = omega (arith, sum_more x (reply_size K P), size_opened o)

  pub at-kept : (at size : ℕ) → at ≡ 16 + sum x (reply_size K P) → size ≡ reply_size K P x → at + size ≡ 16 + sum (x + 1) (reply_size K P)
  at-kept at size e s = omega (arith, sum_more x (reply_size K P))

  -- A reply lies within part 7.
  pub reply-within : (n : ℕ) → x < n → sum x (reply_size K P) + reply_size K P x ≤ sum n (reply_size K P)
  reply-within n h =
      let rest : suc x + (n - suc x) ≡ n = omega arith in
      subst (λ (j : ℕ). sum x (reply_size K P) + reply_size K P x ≤ sum j (reply_size K P)) rest
      (omega (arith, sum_suc x (reply_size K P), sum_grows (reply_size K P) (suc x) (n - suc x)))

-- Every number of part 7 is below q: of one execution, and of all.
unfoldable pub reply_good : Key → Parts → ℕ → Bool
reply_good K P x = pick (opened P.p2 x) true (every (given_count K P x) (λ j. ltb (given K P x j) K.q))

pub numbers_are : (K : Key) (P : Parts) → good_numbers K P ≡ every K.M (reply_good K P)
unfolding good_numbers reply_good
numbers_are K P = refl

module _ (K : Key) (P : Parts) (x : ℕ) where
  pub good-opened : opened P.p2 x ≡ true → reply_good K P x ≡ true
  unfolding reply_good
  good-opened e = rw e

  -- The numbers are what ends a reply.
  pub tail-is :
      (at size n : ℕ) → opened P.p2 x ≡ false → at ≡ 16 + sum x (reply_size K P) → size ≡ reply_size K P x → n ≡ given_count K P x
      → take (at + size - (at + size - 4 * n)) (drop (at + size - 4 * n) P.p7) ≡ drop (16 * depth K + 32) (reply_at K P x)
  unfolding reply_at
  tail-is at size n o a s c =
      let from : at + size - 4 * n ≡ 16 + sum x (reply_size K P) + (16 * depth K + 32) = omega (arith, size_kept K P x o) in
      let wide : at + size - (16 + sum x (reply_size K P) + (16 * depth K + 32)) ≡ reply_size K P x - (16 * depth K + 32) = omega (arith, size_kept K P x o) in
      rw (from, wide) (sym (drop-part P.p7 (16 + sum x (reply_size K P)) (reply_size K P x) (16 * depth K + 32)))

  pub good-kept :
      (l : List ℕ) (n : ℕ) → opened P.p2 x ≡ false → l ≡ drop (16 * depth K + 32) (reply_at K P x) → n ≡ given_count K P x
      → every n (λ j. ltb (num l j) K.q) ≡ reply_good K P x
  unfolding reply_good given
  good-kept l n o e c = rw (o, e, c)
