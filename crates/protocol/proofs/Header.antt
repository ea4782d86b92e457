-- A transcript made of seven parts has a right header, and gives the parts back.
-- Assumes nothing.
use Prim.Native.Nat.{ℕ, suc, ◌+◌, ◌*◌, ◌-◌, ◌<◌, ◌≤◌}
use mathlib.Core.Path.{◌≡◌, refl, sym, ◌∙◌, ap, ap₂}
use mathlib.Core.List.{List, [], ◌++◌, append-nil}
use native.Mathlib.Omega.{arith}
use lib.ListN.{length, get_or, length-append}
use Rattle.lists.specs.Index.{cat, part}
use Rattle.lists.specs.Bytes.{le4, rd4, num}
use Rattle.lists.specs.CatLaws.{cat-length, cat-length_by, cat-part, part-part, part_right, part-first, part-last, le4-length, rd4-le4}
use Rattle.numbers.specs.Sum.{sum}
use Rattle.numbers.proofs.Sum.{sum_zero, sum_suc, sum_ext, sum_grows}
use Rattle.protocol.specs.Key.{Key}
use Rattle.protocol.specs.Transcript.{Parts, part_at, parts_of, sizes, list, transcript}
use Rattle.protocol.specs.Accepts.{GoodHeader}

module _ (P : Parts) where
  abbrev pub item : ℕ → List ℕ
  item i = get_or (list P) i []

  -- The parts' bytes before part i.
  abbrev pub before : ℕ → ℕ
  before i = sum i (λ j. length (item j))

  pair_of : ℕ → List ℕ
  pair_of i = le4 (56 + before i) ++ le4 (length (item i))

  pair-length : (i : ℕ) → length (pair_of i) ≡ 8
  unfolding pair_of
  pair-length i = length-append (le4 (56 + before i)) (le4 (length (item i))) ∙ omega (arith, le4-length (56 + before i), le4-length (length (item i)))

  pairs_length : (i : ℕ) → length (cat i pair_of) ≡ 8 * i
  pairs_length i = cat-length i 8 pair_of (λ j h. pair-length j) ∙ omega arith

  pub items_length : (i : ℕ) → length (cat i item) ≡ before i
  items_length i = cat-length_by i item before (sum_zero _) (λ j h. sum_suc j _)

  pub transcript-length : length (transcript P) ≡ 56 + before 7
  unfolding transcript pair_of
  transcript-length = length-append (cat 7 pair_of) (cat 7 item) ∙ omega (arith, pairs_length 7, items_length 7)

  pair-at : (i : ℕ) → i < 7 → part (transcript P) (8 * i) 8 ≡ pair_of i
  unfolding transcript pair_of
  pair-at i h = cat-part 7 pair_of (cat 7 item) i (8 * i) 8 h (pairs_length i) (pair-length i)

  item_at : (i : ℕ) → i < 7 → part (transcript P) (56 + before i) (length (item i)) ≡ item i
  unfolding transcript pair_of
  item_at i h =
      part_right (cat 7 pair_of) (cat 7 item) 56 (before i) (length (item i)) (pairs_length 7)
      ∙ ap (λ x. part x (before i) (length (item i))) (sym (append-nil (cat 7 item)))
      ∙ cat-part 7 item [] i (before i) (length (item i)) h (items_length i) refl

  module _ (small : 56 + before 7 < 4294967296) where
    within : (i : ℕ) → i < 7 → before i + length (item i) ≤ before 7
    within i h =
        let e : suc i + (6 - i) ≡ 7 = omega arith in
        omega (arith, sum_suc i (λ j. length (item j)), rw e at (sum_grows (λ j. length (item j)) (suc i) (6 - i)))

    pub offset_at : (i : ℕ) → i < 7 → num (transcript P) (2 * i) ≡ 56 + before i
    unfolding num pair_of
    offset_at i h =
        let at : 4 * (2 * i) ≡ 8 * i + 0 = omega arith in
        ap rd4
        (ap (λ j. part (transcript P) j 4) at ∙ sym (part-part (transcript P) (8 * i) 8 0 4 (omega arith))
        ∙ ap (λ x. part x 0 4) (pair-at i h) ∙ part-first (le4 (56 + before i)) (le4 (length (item i))) 4 (le4-length (56 + before i)))
        ∙ rd4-le4 (56 + before i) (omega (arith, within i h))

    pub length_at : (i : ℕ) → i < 7 → num (transcript P) (2 * i + 1) ≡ length (item i)
    unfolding num pair_of
    length_at i h =
        let at : 4 * (2 * i + 1) ≡ 8 * i + 4 = omega arith in
        ap rd4
        (ap (λ j. part (transcript P) j 4) at ∙ sym (part-part (transcript P) (8 * i) 8 4 4 (omega arith))
        ∙ ap (λ x. part x 4 4) (pair-at i h)
        ∙ part-last (le4 (56 + before i)) (le4 (length (item i))) 4 4 (le4-length (56 + before i)) (le4-length (length (item i))))
        ∙ rd4-le4 (length (item i)) (omega (arith, within i h))

    pub part-at : (i : ℕ) → i < 7 → part_at (transcript P) i ≡ item i
    unfolding part_at
    part-at i h = ap₂ (part (transcript P)) (offset_at i h) (length_at i h) ∙ item_at i h

    -- The parts come back.
    pub parts_back : parts_of (transcript P) ≡ P
    unfolding parts_of list
    parts_back =
        λ j. record {
          p1 = part-at 0 (omega arith) j;
          p2 = part-at 1 (omega arith) j;
          p3 = part-at 2 (omega arith) j;
          p4 = part-at 3 (omega arith) j;
          p5 = part-at 4 (omega arith) j;
          p6 = part-at 5 (omega arith) j;
          p7 = part-at 6 (omega arith) j;
        }

    -- The header is right where the first six parts have their lengths.
    pub header_good : (K : Key) → ((i : ℕ) → i < 6 → length (item i) ≡ get_or (sizes K) i 0) → GoodHeader K (transcript P)
    header_good K long =
        record {
          least = omega (arith, transcript-length);
          size = λ i h. length_at i (omega arith) ∙ long i h;
          offset = λ i h. offset_at i h ∙ ap (λ x. 56 + x) (sum_ext i (λ j y. long j (omega arith)));
          end = omega (arith, offset_at 6 (omega arith), length_at 6 (omega arith), transcript-length, sum_suc 6 (λ j. length (item j)));
        }
