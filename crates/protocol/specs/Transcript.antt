-- Document 01, Transcript: seven pairs of offset and length, then the parts without gaps from byte 56 to the file's end.
-- Assumes nothing.
use Rattle.std.specs.Prelude.{ℕ, ◌+◌, ◌*◌, Bool, List, [], ◌∷◌, ◌++◌, leb, eqb, length, get_or}
use Rattle.lists.specs.Index.{cat, every, part, holds}
use Rattle.lists.specs.Bytes.{le4, num}
use Rattle.numbers.specs.Sum.{sum}
use Rattle.protocol.specs.Key.{Key, kept_count}

-- 1. hΓ. 2. E, one byte each. 3. The master seeds of E, Ω of the kept, hπ. 4. L. 5. hψ. 6. The hidden list. 7. K and the replies.
pub record Parts : Type 0 where
  pub p1 : List ℕ
  pub p2 : List ℕ
  pub p3 : List ℕ
  pub p4 : List ℕ
  pub p5 : List ℕ
  pub p6 : List ℕ
  pub p7 : List ℕ

-- each part as it stands in the file
unfoldable pub part_at : List ℕ → ℕ → List ℕ
part_at x i = part x (num x (2 * i)) (num x (2 * i + 1))

unfoldable pub parts_of : List ℕ → Parts
parts_of x =
    record {
      p1 = part_at x 0;
      p2 = part_at x 1;
      p3 = part_at x 2;
      p4 = part_at x 3;
      p5 = part_at x 4;
      p6 = part_at x 5;
      p7 = part_at x 6;
    }

-- the lengths of parts 1 to 6
unfoldable pub sizes : Key → List ℕ
sizes K = 32 ∷ K.τ ∷ (16 * K.τ + 32 * kept_count K + 32) ∷ 16 ∷ 32 ∷ kept_count K ∷ []

-- where part 7 ends by its pair; the sum is exact
abbrev pub file_end : List ℕ → ℕ
file_end x = num x 12 + num x 13

-- The first six pairs, each offset, and the file's end are right.
unfoldable pub good_header : Key → List ℕ → Bool
good_header K x =
    holds
    (leb 56 (length x)
    ∷ every 6 (λ i. eqb (num x (2 * i + 1)) (get_or (sizes K) i 0))
    ∷ every 7 (λ i. eqb (num x (2 * i)) (56 + sum i (λ j. get_or (sizes K) j 0)))
    ∷ eqb (file_end x) (length x)
    ∷ [])

-- the list of the parts, and the file that they make
unfoldable pub list : Parts → List (List ℕ)
list P = P.p1 ∷ P.p2 ∷ P.p3 ∷ P.p4 ∷ P.p5 ∷ P.p6 ∷ P.p7 ∷ []

unfoldable pub transcript : Parts → List ℕ
transcript P =
    cat 7 (λ i. le4 (56 + sum i (λ j. length (get_or (list P) j []))) ++ le4 (length (get_or (list P) i [])))
    ++ cat 7 (λ i. get_or (list P) i [])
