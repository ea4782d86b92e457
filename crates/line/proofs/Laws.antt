-- Laws of the digits of a number, and of what is written in front of a list.
-- Assumes nothing.
use Rattle.std.proofs.Common.{◌≡◌, ℕ, zero, suc, ◌+◌, ◌-◌, ◌/◌, ◌%◌, ◌≤◌, Bool, true, false, ltb, List, [], ◌∷◌, ◌++◌, length, take, drop, refl, sym, ◌∙◌, arith, length-append, eq-eqb, ne_eqb}
use lib.Seq.{drop-drop, take_at, drop_at}
use Rattle.lists.specs.Written.{tail_written}
use Rattle.lists.specs.Index.{pick}
use Rattle.line.specs.Line.{decimal, line_of}

pub long : (f n : ℕ) → length (decimal f n) ≤ f
unfolding decimal
long zero n = omega arith
long (suc f) n = by_size (ltb n 10) (long f (n / 10))
  where
    by_size : (c : Bool) → length (decimal f (n / 10)) ≤ f → length (pick c ((48 + n) ∷ []) (decimal f (n / 10) ++ (48 + n % 10) ∷ [])) ≤ suc f
    by_size true h = omega arith
    by_size false h = omega (arith, length-append (decimal f (n / 10)) ((48 + n % 10) ∷ []))

-- text w behind text v that is written in front, by a loan of what follows v
pub joined : (v w out o r : List ℕ) (a n : ℕ) → a ≡ length v → o ≡ v ++ drop a out → r ≡ w ++ drop n (take (length o - a) (drop a o))
    → take a o ++ (r ++ drop (length o - a) (drop a o)) ≡ (v ++ w) ++ drop (a + n) out
joined v w out o r a n e f g =
    tail_written w r o a n g
    ∙ rw (f, take_at v (drop a out) a (sym e), ← drop-drop n a (v ++ drop a out), drop_at v (drop a out) a (sym e), drop-drop n a out) refl

-- ---- the line
abbrev pub refused_text : List ℕ
refused_text = 114 ∷ 101 ∷ 102 ∷ 117 ∷ 115 ∷ 101 ∷ 100 ∷ 32 ∷ []

pub accepted_line : (n : ℕ) → n ≡ 0 → line_of n ≡ 97 ∷ 99 ∷ 99 ∷ 101 ∷ 112 ∷ 116 ∷ 101 ∷ 100 ∷ 10 ∷ []
unfolding line_of
accepted_line n e = rw (eq-eqb n 0 e) refl

refused_line : (n : ℕ) → (n ≡ 0 → ⊥) → line_of n ≡ (refused_text ++ decimal 10 n) ++ 10 ∷ []
unfolding line_of
refused_line n h = rw (ne_eqb n 0 h) refl

-- a line in front of a list is as long as its count says
pub counted : {r : ℕ} {o : List ℕ} (l rest : List ℕ) → (r ≡ length l) × (o ≡ l ++ rest)
    → (r ≡ length l) × ((o ≡ l ++ rest) × ((r ≤ length o) × (r ≡ length (take r o))))
counted {r} {o} l rest (e, f) = (e, (f, rw f (omega (arith, length-append l rest), rw (take_at l rest r (sym e)) e)))

-- the three texts of a refusal, each behind the one before
pub refused_written : (n : ℕ) (out o p r s : List ℕ) (a k j : ℕ) → (n ≡ 0 → ⊥) → a ≡ 8 → o ≡ refused_text ++ drop a out
    → k ≡ length (decimal 10 n) → r ≡ decimal 10 n ++ drop k (take (length o - a) (drop a o))
    → p ≡ take a o ++ (r ++ drop (length o - a) (drop a o))
    → j ≡ 1 → s ≡ 10 ∷ [] ++ drop j (take (length p - (a + k)) (drop (a + k) p))
    → (a + k + j ≡ length (line_of n)) × (take (a + k) p ++ (s ++ drop (length p - (a + k)) (drop (a + k) p)) ≡ line_of n ++ drop (a + k + j) out)
refused_written n out o p r s a k j h e f e' g q e'' u =
    rw (refused_line n h) (
      omega (arith, length-append (refused_text ++ decimal 10 n) (10 ∷ []), length-append refused_text (decimal 10 n)),
      joined (refused_text ++ decimal 10 n) (10 ∷ []) out p s (a + k) j (omega (arith, length-append refused_text (decimal 10 n)))
          (q ∙ joined refused_text (decimal 10 n) out o r a k e f g) u,
    )
