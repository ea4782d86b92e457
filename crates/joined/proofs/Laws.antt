-- Sums of the open parties' numbers, and a list that is written over from its front.
-- Assumes nothing.
use Prim.Native.Nat.{ℕ, zero, suc, ◌+◌, ◌*◌, ◌%◌, ◌<◌, ◌≤◌}
use mathlib.Core.Path.{◌≡◌, refl, sym, ap}
use mathlib.Core.List.{List, ◌++◌}
use native.Mathlib.Omega.{arith}
use native.Mathlib.Numerals.{add-one}
use native.Mathlib.Decide.{ℕ_discrete}
use lib.Arith.{lt_of_le-ne}
use borrow.Author.Tests.{eq-eqb, ne_eqb}
use lib.ListN.{length, get_or, set, drop}
use lib.Seq.{drop-cons, get_or_at}
use Rattle.lists.specs.Tab.{tab, tab-length}
use Rattle.lists.specs.Written.{front-more}
use Rattle.numbers.specs.Sum.{sum}
use Rattle.numbers.proofs.Sum.{sum_more, sum_ext}
use Rattle.numbers.specs.Residue.{Residue}
use Rattle.execution.specs.Shown.{place_of}
use Rattle.joined.specs.Joined.{open_at, open_sum, with_party}

-- the sum over the open parties: all parties' where none of them is hidden, else that less the hidden party's number
module _ (m hid : ℕ) (work : List ℕ) (j : ℕ) where
  abbrev pub all : ℕ → ℕ
  all i = get_or work (place_of m i j) 0

  pub none_hidden : (n : ℕ) → n ≤ hid → sum n (open_at m hid work j) ≡ sum n all
  none_hidden n h = sum_ext n (λ i k. rw (ne_eqb i hid (λ e. let w : ⊥ = omega arith in w)) refl)

  pub one_hidden : (n : ℕ) → hid < n → sum n (open_at m hid work j) + all hid ≡ sum n all
  one_hidden zero h = absurd (omega arith)
  one_hidden (suc n) h = go (ℕ_discrete n hid) (λ k. one_hidden n k)
    where
      next : (f : ℕ → ℕ) → sum (suc n) f ≡ sum n f + f n
      next f = rw (← add-one n) (sum_more n f)

      go : Dec (n ≡ hid) → (hid < n → sum n (open_at m hid work j) + all hid ≡ sum n all) → sum (suc n) (open_at m hid work j) + all hid ≡ sum (suc n) all
      go (yes e) before =
          let at : open_at m hid work j n ≡ 0 = rw (eq-eqb n hid e) refl in
          let here : all n ≡ all hid = ap all e in
          omega (arith, at, here, none_hidden n (omega arith), next (open_at m hid work j), next all)
      go (no ne) before =
          let at : open_at m hid work j n ≡ all n = rw (ne_eqb n hid ne) refl in
          omega (arith, at, before (lt_of_le-ne (omega arith) (λ e. ne (sym e))), next (open_at m hid work j), next all)

-- r is l with the first n entries written over by those of f
pub record Front (f : ℕ → ℕ) (l : List ℕ) (n : ℕ) (r : List ℕ) : Type 0 where
  pub within : n ≤ length l
  pub is : r ≡ tab n f ++ drop n l

pub front-none : (f : ℕ → ℕ) (l : List ℕ) → Front f l 0 l
unfolding tab
front-none f l = record { within = omega arith; is = refl }

-- what is not yet written over
pub front_at : {f : ℕ → ℕ} {l : List ℕ} {n : ℕ} {r : List ℕ} → Front f l n r → n < length l → get_or r n 0 ≡ get_or l n 0
front_at {f} {l} {n} so h = rw (so.is, drop-cons l n 0 h) (get_or_at (tab n f) (get_or l n 0) (drop (suc n) l) 0 n (tab-length n f))

pub front-next : {f : ℕ → ℕ} {l : List ℕ} {n : ℕ} {r : List ℕ} {v : ℕ} → Front f l n r → n < length l → v ≡ f n → Front f l (n + 1) (set r n v)
front-next {f} {l} {n} {r} {v} so h e = record { within = omega arith; is = rw (so.is, e) (front-more n f l h) }

-- one party's number more
pub party_is : (q m i j from old r : ℕ) (work sums : List ℕ) → old ≡ get_or sums j 0 → from ≡ 3 * m * i
    → r ≡ (old + get_or work (from + j) 0) % q → r ≡ with_party q m i work sums j
unfolding with_party
party_is q m i j from old r work sums e f h = rw (e, f) at h

-- the sum modulo q, from the sum over all parties
pub open_all : (q m N hid j total r : ℕ) (work : List ℕ) → total ≡ sum N (open_at m hid work j) → Residue q (total % q) r
    → Residue q (open_sum q m N hid work j) r
unfolding open_sum
open_all q m N hid j total r work e h = rw e at h
