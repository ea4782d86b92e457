-- Steps of the proofs of this crate. Assumes nothing.
use Prim.Native.Nat.{ℕ, suc, ◌+◌, ◌*◌, ◌-◌, ◌/◌, ◌≤◌, ◌<◌}
use mathlib.Core.Path.{◌≡◌, refl, sym, ap, ◌∙◌}
use mathlib.Core.Bool.{Bool, true, false}
use mathlib.Core.List.{List, []}
use native.Mathlib.Numerals.{add-one}
use native.Mathlib.Omega.{arith}
use lib.Dec.{eqb, ltb}
use lib.ListN.{length, get_or, take, drop, length-drop}
use lib.Seq.{length-take-le}
use Rattle.std.proofs.Common.{take_all, drop-drop}
use borrow.Author.Tests.{le-leb, lt-leb, eq-eqb, ne_eqb}
use Rattle.lists.specs.Index.{pick, every, holds}
use Rattle.lists.specs.Bytes.{num}
use Rattle.lists.specs.Check.{Verdict, accepted, refused, first}
use Rattle.lists.specs.TestLaws.{holds-fails}
use Rattle.numbers.specs.Sum.{sum}
use Rattle.numbers.proofs.Sum.{sum_ext}
use Rattle.protocol.specs.Key.{Key}
use Rattle.protocol.specs.Prover.{opened, place, good_e, good_hidden}
use Rattle.protocol.specs.Transcript.{Parts, part_at, sizes, good_header}
use Rattle.protocol.specs.Judge.{given_count, reply_size, good_numbers, form_checks}
use Rattle.key.specs.declared.sizes.Numbers.{Numbers}
use Rattle.key.specs.Numbers.{Of, key_with, of_with}
use Rattle.transcript.specs.Layout.{start_of, start_first, start-next, start-within, part_is, last_is}
use Rattle.transcript.specs.Replies.{parts_with, size_of, length-of, numbers_of, size_kept, reply-within, place_kept, at-kept, reply_good, good-kept, tail-is}

pub start-more : (K : Key) (j at size : ℕ) → at ≡ start_of K j → size ≡ get_or (sizes K) j 0 → at + size ≡ start_of K (j + 1)
start-more K j at size e h = rw (e, h, add-one) (sym (start-next K j))

-- The four tests of a header: one that fails, or all.
module _ (K : Key) (x : List ℕ) where
  abbrev sizes_match : Bool
  sizes_match = every 6 (λ i. eqb (num x (2 * i + 1)) (get_or (sizes K) i 0))

  abbrev starts_match : Bool
  starts_match = every 7 (λ i. eqb (num x (2 * i)) (start_of K i))

  pub header_short : length x < 56 → false ≡ good_header K x
  unfolding good_header
  header_short h = sym (holds-fails _ 0 (lt-leb 56 (length x) h))

  pub header_sizes : sizes_match ≡ false → false ≡ good_header K x
  unfolding good_header
  header_sizes h = sym (holds-fails _ 1 h)

  pub header_starts : starts_match ≡ false → false ≡ good_header K x
  unfolding good_header start_of
  header_starts h = sym (holds-fails _ 2 h)

  pub header_rest : 56 ≤ length x → sizes_match ≡ true → starts_match ≡ true → eqb (num x 12 + num x 13) (length x) ≡ good_header K x
  unfolding good_header holds start_of
  header_rest h s t = sym (rw (le-leb 56 (length x) h, s, t) (last (eqb (num x 12 + num x 13) (length x))))
    where
      last : (b : Bool) → pick b true false ≡ b
      last true = refl
      last false = refl

-- Part after part: what is left before part i, s being the lengths.
module _ (k : Numbers) (x s : List ℕ) (headed : (K : Key) → Of k K → good_header K x ≡ true) (sized : (K : Key) → Of k K → s ≡ sizes K) where
  abbrev K : Key
  K = key_with k []

  good : good_header K x ≡ true
  good = headed K (of_with k [])

  is : s ≡ sizes K
  is = sized K (of_with k [])

  pub long_enough : 56 ≤ length x
  long_enough = omega (arith, start-within K x good 0 (omega arith), start_first K)

  pub cut_first : take (length x - 56) (drop 56 x) ≡ drop (start_of K 0) x
  cut_first = take_all (length x - 56) (drop 56 x) (omega (arith, length-drop 56 x)) ∙ ap (λ (i : ℕ). drop i x) (sym (start_first K))

  size_of_part : (i : ℕ) → start_of K i + get_or s i 0 ≡ start_of K (suc i)
  size_of_part i = ap (λ (l : List ℕ). start_of K i + get_or l i 0) is ∙ sym (start-next K i)

  pub cut_room : (i : ℕ) {rest : List ℕ} → i < 6 → rest ≡ drop (start_of K i) x → get_or s i 0 ≤ length rest
  cut_room i {rest} h e =
      let left : length rest ≡ length x - start_of K i = ap (λ (l : List ℕ). length l) e ∙ length-drop (start_of K i) x in
      omega (arith, left, size_of_part i, start-within K x good (suc i) (omega arith))

  pub cut_part : (i : ℕ) {rest part : List ℕ} → i < 6 → rest ≡ drop (start_of K i) x → part ≡ take (get_or s i 0) rest → part ≡ part_at x i
  cut_part i h e p =
      let wide : get_or s i 0 ≡ start_of K (suc i) - start_of K i = omega (arith, size_of_part i) in
      p ∙ ap (λ (l : List ℕ). take (get_or s i 0) l) e ∙ ap (λ (n : ℕ). take n (drop (start_of K i) x)) wide ∙ sym (part_is K x good i h)

  pub cut_next : (i : ℕ) {rest later : List ℕ} → rest ≡ drop (start_of K i) x → later ≡ drop (get_or s i 0) rest → later ≡ drop (start_of K (suc i)) x
  cut_next i e p =
      p ∙ ap (λ (l : List ℕ). drop (get_or s i 0) l) e ∙ drop-drop (get_or s i 0) (start_of K i) x ∙ ap (λ (n : ℕ). drop n x) (size_of_part i)

  pub cut_last : {rest : List ℕ} → rest ≡ drop (start_of K 6) x → rest ≡ part_at x 6
  cut_last e = e ∙ sym (last_is K x good ∙ take_all (length x - start_of K 6) (drop (start_of K 6) x) (omega (arith, length-drop (start_of K 6) x)))

-- What ends a part of a list has its length.
pub tail-long :
    (l : List ℕ) (at size n : ℕ) → n ≤ size → at + size ≤ length l → length (take (at + size - (at + size - n)) (drop (at + size - n) l)) ≡ n
tail-long l at size n h k =
    length-take-le (at + size - (at + size - n)) (drop (at + size - n) l) (simp length-drop (omega arith)) ∙ (omega arith)

-- The turn of a kept execution x: n numbers and a reply of `size` bytes, which begins at `at`.
pub record Turn (k : Numbers) (e h r : List ℕ) (x n size at : ℕ) : Type 0 where
  pub is_kept : opened e x ≡ false
  pub counted : n ≡ given_count (key_with k []) (parts_with e h r) x
  pub sized : size ≡ reply_size (key_with k []) (parts_with e h r) x
  pub begins : at ≡ 16 + sum x (reply_size (key_with k []) (parts_with e h r))
  pub room : 4 * n ≤ size
  pub inside : at + size ≤ length r

module _ (k : Numbers) (e h r : List ℕ) where
  pub turn : (x kept at : ℕ) {party n size : ℕ} {t : Bool} → t ≡ opened e x → t ≡ false → kept ≡ place e x → party ≡ get_or h kept 0
      → ((K : Key) (P : Parts) (x : ℕ) → Of k K → get_or P.p6 (place P.p2 x) 0 ≡ party → n ≡ given_count K P x)
      → ((K : Key) (P : Parts) (x : ℕ) → Of k K → opened P.p2 x ≡ false → get_or P.p6 (place P.p2 x) 0 ≡ party → size ≡ reply_size K P x)
      → at ≡ 16 + sum x (reply_size (key_with k []) (parts_with e h r)) → x < k.executions
      → length r ≡ 16 + sum k.executions (reply_size (key_with k []) (parts_with e h r)) → Turn k e h r x n size at
  turn x kept at {party} {n} {size} a b c d counts sizes begins small long =
      let K = key_with k [] in let P = parts_with e h r in
      let is_kept : opened e x ≡ false = sym a ∙ b in
      let hides : get_or h (place e x) 0 ≡ party = ap (λ (j : ℕ). get_or h j 0) (sym c) ∙ sym d in
      let counted : n ≡ given_count K P x = counts K P x (of_with k []) hides in
      let sized : size ≡ reply_size K P x = sizes K P x (of_with k []) is_kept hides in
      record {
        is_kept = is_kept;
        counted = counted;
        sized = sized;
        begins = begins;
        room = omega (arith, size_kept K P x is_kept, sized, counted);
        inside = omega (arith, reply-within K P x k.executions small, sized, begins, long);
      }

  module _ {x n size at : ℕ} (t : Turn k e h r x n size at) where
    pub next_place : place e x + 1 ≡ place e (x + 1)
    next_place = sym (place_kept e x t.is_kept)

    pub next_reply : at + size ≡ 16 + sum (x + 1) (reply_size (key_with k []) (parts_with e h r))
    next_reply = at-kept (key_with k []) (parts_with e h r) x at size t.begins t.sized

    pub tested : {b : Bool} {l : List ℕ} → l ≡ take (at + size - (at + size - 4 * n)) (drop (at + size - 4 * n) r)
        → b ≡ every (length l / 4) (λ j. ltb (num l j) k.modulus.q) → b ≡ reply_good (key_with k []) (parts_with e h r) x
    tested {b} {l} is s =
        let long : length l ≡ 4 * n = ap (λ (y : List ℕ). length y) is ∙ tail-long r at size (4 * n) t.room t.inside in
        let many : length l / 4 ≡ n = omega (arith, long) in
        s ∙ ap (λ (j : ℕ). every j (λ i. ltb (num l i) k.modulus.q)) many
        ∙ good-kept (key_with k []) (parts_with e h r) x l n t.is_kept (is ∙ tail-is (key_with k []) (parts_with e h r) x at size n t.is_kept t.begins t.sized t.counted) t.counted

-- What is said of parts 2, 6 and 7, by the test that decides it.
module _ (K : Key) (P : Parts) where
  abbrev Says : Verdict → Type 0
  Says v = v ≡ first (form_checks K P)

  pub form_7 : good_e K P.p2 ≡ false → Says (refused 7)
  unfolding form_checks first
  form_7 e = rw e

  module _ (opened : good_e K P.p2 ≡ true) where
    pub form_10 : good_hidden K P.p6 ≡ false → Says (refused 10)
    unfolding form_checks first
    form_10 e = rw (opened, e)

    module _ (hidden : good_hidden K P.p6 ≡ true) where
      pub form_13 : (length P.p7 ≡ 16 + sum K.M (reply_size K P) → ⊥) → Says (refused 13)
      unfolding form_checks first
      form_13 h = rw (opened, hidden, ne_eqb (length P.p7) (16 + sum K.M (reply_size K P)) h)

      module _ (long : length P.p7 ≡ 16 + sum K.M (reply_size K P)) where
        pub form_14 : good_numbers K P ≡ false → Says (refused 14)
        unfolding form_checks first
        form_14 e = rw (opened, hidden, eq-eqb (length P.p7) (16 + sum K.M (reply_size K P)) long, e)

        pub form_none : good_numbers K P ≡ true → Says accepted
        unfolding form_checks first
        form_none e = rw (opened, hidden, eq-eqb (length P.p7) (16 + sum K.M (reply_size K P)) long, e)

-- Where a reply begins is a matter of the key's numbers, of E and of the hidden list.
pub from_of : (k : Numbers) (E h : List ℕ) (e : ℕ) {at : ℕ} → at ≡ 16 + sum e (reply_size (key_with k []) (parts_with E h []))
    → (K : Key) (P : Parts) → Of k K → P.p2 ≡ E → P.p6 ≡ h → at ≡ 16 + sum e (reply_size K P)
from_of k E h e is K P of a b = is ∙ ap (λ (s : ℕ). 16 + s) (sum_ext e (λ j l. size_of k K of P E h [] a b j))

-- What the tests made by the key's numbers and the parts' bytes say of a key and parts with those.
module _ (k : Numbers) (K : Key) (P : Parts) (of : Of k K) {e h r : List ℕ} (e_is : P.p2 ≡ e) (h_is : P.p6 ≡ h) (r_is : P.p7 ≡ r) where
  pub opened_test : {t u : Bool} → ((K : Key) → K.τ ≡ k.opened → K.M ≡ k.executions → t ≡ good_e K e) → t ≡ u → good_e K P.p2 ≡ u
  opened_test says is = ap (λ (l : List ℕ). good_e K l) e_is ∙ sym (says K (sym of.τ_is) (sym of.executions_is)) ∙ is

  pub hidden_test : {t u : Bool} → ((K : Key) → K.M - K.τ ≡ k.executions - k.opened → K.N ≡ k.parties → t ≡ good_hidden K h) → t ≡ u → good_hidden K P.p6 ≡ u
  hidden_test says is =
      ap (λ (l : List ℕ). good_hidden K l) h_is ∙ sym (says K (rw (of.executions_is, of.τ_is) refl) (sym of.parties_is)) ∙ is

  pub numbers_test : {t u : Bool} → t ≡ good_numbers (key_with k []) (parts_with e h r) → t ≡ u → good_numbers K P ≡ u
  numbers_test says is = sym (numbers_of k K of P e h r e_is h_is r_is) ∙ sym says ∙ is

  pub replies_long : {n : ℕ} → n ≡ 16 + sum k.executions (reply_size (key_with k []) (parts_with e h [])) → length r ≡ n → length P.p7 ≡ 16 + sum K.M (reply_size K P)
  replies_long says is = ap (λ (l : List ℕ). length l) r_is ∙ is ∙ says ∙ length-of k K of P e h e_is h_is

  pub replies_other : {n : ℕ} → n ≡ 16 + sum k.executions (reply_size (key_with k []) (parts_with e h [])) → (length r ≡ n → ⊥) → length P.p7 ≡ 16 + sum K.M (reply_size K P) → ⊥
  replies_other says other is = other (sym (ap (λ (l : List ℕ). length l) r_is) ∙ is ∙ sym (says ∙ length-of k K of P e h e_is h_is))
