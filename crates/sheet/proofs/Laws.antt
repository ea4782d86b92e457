-- Laws of what is written in a list, text after text, and of the sheet's lengths.
-- Assumes nothing.
use Prim.Native.Nat.{ℕ, zero, suc, ◌+◌, ◌-◌, ◌≤◌}
use mathlib.Core.Path.{◌≡◌, refl, sym, ◌∙◌, ap}
use mathlib.Core.Bool.{Bool, true, false, not, cond}
use Rattle.std.specs.List.{count_by, fold}
use mathlib.Core.List.{List, [], ◌∷◌, ◌++◌, append_assoc}
use native.Mathlib.Numerals.{add-one}
use native.Mathlib.Omega.{arith}
use lib.Dec.{eqb, ltb}
use lib.ListN.{length, get_or, take, drop, length-append}
use borrow.Author.Tests.{ne_eqb, lt-ltb}
use lib.Seq.{take_at, drop_at, drop-drop, length-take-le}
use Rattle.lists.specs.Index.{pick, cat, count}
use Rattle.lists.specs.TestLaws.{count_ext, count-not}
use Rattle.lists.specs.Written.{Puts, Built, built_more, tail_written}
use Rattle.line.specs.Line.{decimal, line_of}
use Rattle.line.proofs.Laws.{long, counted}
use Rattle.sheet.specs.Sheet.{name_of, run_line, accepted_word, refused_word, total_word, totals, accepted_in, refused_in, sheet_of}

-- a text that is written in front of what follows a place
pub puts_tail : (ys r out : List ℕ) (from n : ℕ) → n ≡ length ys → r ≡ ys ++ drop n (take (length out - from) (drop from out))
    → Puts from (from + n) ys out (take from out ++ (r ++ drop (length out - from) (drop from out)))
puts_tail ys r out from n e y = record { long = omega arith; is = tail_written ys r out from n y }

-- one text behind another
pub puts_join : {at a b : ℕ} {xs ys l o r : List ℕ} → at ≤ length l → Puts at a xs l o → Puts a b ys o r → Puts at b (xs ++ ys) l r
puts_join {at} {a} {b} {xs} {ys} {l} {o} {r} h p q =
    record {
      long = omega (arith, p.long, q.long, length-append xs ys);
      is = q.is ∙ rw (p.is, before, after) (ap (λ (z : List ℕ). z ++ drop b l) (append_assoc (take at l) xs ys));
    }
  where
    front : length (take at l ++ xs) ≡ a
    front = omega (arith, length-append (take at l) xs, length-take-le at l h, p.long)

    before : take a (take at l ++ xs ++ drop a l) ≡ take at l ++ xs
    before = take_at (take at l ++ xs) (drop a l) a front

    after : drop b (take at l ++ xs ++ drop a l) ≡ drop b l
    after =
        rw (q.long, ← drop-drop (length ys) a (take at l ++ xs ++ drop a l), drop_at (take at l ++ xs) (drop a l) a front)
        (drop-drop (length ys) a l)

-- ---- a run's line
line_long : (n : ℕ) → length (line_of n) ≤ 19
unfolding line_of
line_long n = by_verdict (eqb n 0) (length-append (decimal 10 n) (10 ∷ [])) (long 10 n)
  where
    by_verdict : (c : Bool) → length (decimal 10 n ++ 10 ∷ []) ≡ length (decimal 10 n) + 1 → length (decimal 10 n) ≤ 10
        → length
        (pick c (97 ∷ 99 ∷ 99 ∷ 101 ∷ 112 ∷ 116 ∷ 101 ∷ 100 ∷ 10 ∷ [])
        (114 ∷ 101 ∷ 102 ∷ 117 ∷ 115 ∷ 101 ∷ 100 ∷ 32 ∷ (decimal 10 n ++ 10 ∷ [])))
        ≤ 19
    by_verdict true e h = omega arith
    by_verdict false e h = omega arith

run_long : (i n : ℕ) → length (run_line i n) ≤ 25
unfolding run_line name_of
run_long i n = omega (arith, line_long n)

run_joined : (i n : ℕ) {at a b r : ℕ} {l o p q : List ℕ} → at ≤ length l
    → Puts at a (name_of i) l o → Puts a b (32 ∷ []) o p → Puts b r (line_of n) p q → Puts at r (run_line i n) l q
unfolding run_line name_of
run_joined i n h x y z = puts_join h (puts_join h x y) z

pub run_written : (i n : ℕ) {at a b r : ℕ} {file l o p q : List ℕ} → at ≤ length l → file ≡ name_of i
    → Puts at a file l o → Puts a b (32 ∷ []) o p → Puts b r (line_of n) p q → Puts at r (run_line i n) l q × (r ≤ at + 25)
run_written i n h e x y z =
    let w = run_joined i n h (rw e at x) y z in (w, omega (arith, w.long, run_long i n))

-- ---- the last line
pub number-written : (n : ℕ) {at a r : ℕ} {word l o q : List ℕ} → at ≤ length l → Puts at a word l o → Puts a r (decimal 2 n) o q
    → Puts at r (word ++ decimal 2 n) l q × (r ≤ at + length word + 2)
number-written n h x y = (puts_join h x y, omega (arith, x.long, y.long, long 2 n))

pub totals-written : (a r t : List ℕ) {at p₁ p₂ p₃ p₄ : ℕ} {l o₁ o₂ o₃ o₄ : List ℕ} → at ≤ length l
    → Puts at p₁ (accepted_word ++ a) l o₁ → Puts p₁ p₂ (refused_word ++ r) o₁ o₂ → Puts p₂ p₃ (total_word ++ t) o₂ o₃ → Puts p₃ p₄ (10 ∷ []) o₃ o₄
    → Puts at p₄ (totals a r t ++ 10 ∷ []) l o₄
unfolding totals
totals-written a r t h x₁ x₂ x₃ x₄ = puts_join h (puts_join h (puts_join h x₁ x₂) x₃) x₄

-- ---- counts
count_front : (n : ℕ) (p : ℕ → Bool) → count (suc n) p ≡ pick (p 0) 1 0 + count n (λ j. p (suc j))
unfolding count
count_front zero p = omega arith
count_front (suc n) p = let e = count_front n p in omega arith

one_if : (b : Bool) → ◌≡◌ {A = ℕ} (cond b 1 0) (pick b 1 0)
one_if true = refl
one_if false = refl

counted_from : (p : ℕ → Bool) (a : ℕ) (ns : List ℕ) → fold (λ a n. a + cond (p n) 1 0) a ns ≡ a + count (length ns) (λ j. p (get_or ns j 0))
unfolding count
counted_from p a [] = omega arith
counted_from p a (n ∷ ns) =
    let e = counted_from p (a + cond (p n) 1 0) ns in
    let f = count_front (length ns) (λ j. p (get_or (n ∷ ns) j 0)) in
    let g = one_if (p n) in
    omega arith

-- std's count of the numbers that pass is the definition's
pub counted_by : (p : ℕ → Bool) (ns : List ℕ) → count_by p ns ≡ count (length ns) (λ j. p (get_or ns j 0))
counted_by p ns = let e = counted_from p 0 ns in omega arith

refused-not : (n : ℕ) → ltb 0 n ≡ not (eqb n 0)
refused-not zero = refl
refused-not (suc n) = rw (ne_eqb (suc n) 0 (λ e. omega arith), lt-ltb 0 (suc n) (omega arith)) refl

-- a run is accepted or refused
pub all_counted : (ns : List ℕ) → count (length ns) (λ j. eqb (get_or ns j 0) 0) + count (length ns) (λ j. ltb 0 (get_or ns j 0)) ≡ length ns
all_counted ns =
    ap (λ (k : ℕ). count (length ns) (λ j. eqb (get_or ns j 0) 0) + k) (count_ext (length ns) _ _ (λ j h. refused-not (get_or ns j 0)))
    ∙ count-not (length ns) (λ j. eqb (get_or ns j 0) 0)

-- ---- the sheet
abbrev pub line_at : List ℕ → ℕ → List ℕ
line_at ns j = run_line (suc j) (get_or ns j 0)

pub next_run : (ns : List ℕ) {i at to : ℕ} {l o r : List ℕ} → Built (line_at ns) i at l o → Puts at to (run_line (i + 1) (get_or ns i 0)) o r → Built (line_at ns) (i + 1) to l r
next_run ns {i} b p = built_more b p (ap (λ (k : ℕ). run_line k (get_or ns i 0)) (add-one i))

-- items in front, and a text behind them
built_then : {f : ℕ → List ℕ} {i at to : ℕ} {ys l o q : List ℕ} → Built f i at l o → Puts at to ys o q
    → (to ≡ length (cat i f ++ ys)) × (q ≡ cat i f ++ ys ++ drop to l)
built_then {f} {i} {at} {l = l} {o} b p =
    let front : Puts 0 at (cat i f) l o = record { long = omega (arith, b.long); is = b.is } in
    let w = puts_join (omega arith) front p in (omega (arith, w.long), w.is)

sheet_is : (ns : List ℕ) {i a r t : ℕ} → i ≡ length ns
    → a ≡ count i (λ j. eqb (get_or ns j 0) 0) → r ≡ count i (λ j. ltb 0 (get_or ns j 0)) → t ≡ i
    → cat i (line_at ns) ++ (totals (decimal 2 a) (decimal 2 r) (decimal 2 t) ++ 10 ∷ []) ≡ sheet_of ns
unfolding sheet_of
sheet_is ns {i} {a} {r} {t} e f g h = rw (f, g, h, e) (sym (append_assoc (cat (length ns) (line_at ns)) _ (10 ∷ [])))

pub sheet_written : (ns : List ℕ) {i at to a r : ℕ} {l o q : List ℕ} → Built (line_at ns) i at l o → i ≡ length ns
    → Puts at to (totals (decimal 2 a) (decimal 2 r) (decimal 2 (a + r)) ++ 10 ∷ []) o q
    → a ≡ accepted_in ns → r ≡ refused_in ns
    → (to ≡ length (sheet_of ns)) × ((q ≡ sheet_of ns ++ drop to l) × ((to ≤ length q) × (to ≡ length (take to q))))
sheet_written ns {i} {at} {to} {a} {r} {l} b e p f g =
    let accepted : a ≡ count i (λ j. eqb (get_or ns j 0) 0) = rw (f, e) refl in
    let refused : r ≡ count i (λ j. ltb 0 (get_or ns j 0)) = rw (g, e) refl in
    let total : a + r ≡ i = rw (f, g, e) (all_counted ns) in
    counted (sheet_of ns) (drop to l) (rw (sheet_is ns e accepted refused total) at (built_then b p))
