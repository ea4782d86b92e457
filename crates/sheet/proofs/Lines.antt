-- The lines of a sheet: each run has one line, as many lines say `accepted` as there are verdicts 0, and the last line's digits say how many.
-- Assumes nothing.
use Prim.Native.Nat.{ℕ, zero, suc, ◌+◌, ◌/◌, ◌%◌, ◌≤◌, ◌<◌}
use Prim.{Unit, tt}
use mathlib.Core.Path.{◌≡◌, refl, sym, ◌∙◌, ap, ap₂}
use mathlib.Core.Bool.{Bool, true, false, not}
use mathlib.Core.Logic.{⊎_elim}
use mathlib.Core.List.{List, [], ◌∷◌, ◌++◌, append_assoc}
use native.Mathlib.Nat.{zero-add, add-zero, eq-or-lt_of_le, le_of_suc-le-suc}
use native.Mathlib.Omega.{arith}
use lib.Dec.{eqb, ltb}
use lib.ListN.{length, get_or, take, get_or-append}
use lib.Seq.{get_or_at}
use borrow.Author.Tests.{ne_eqb, lt-ltb, le-ltb, ltb-true, ltb-false}
use Rattle.lists.specs.Index.{pick, cat, every, count, same}
use Rattle.lists.specs.CatLaws.{cat-length}
use Rattle.lists.specs.TestLaws.{decide, count_ext, count-le}
use Rattle.line.specs.Line.{decimal, line_of}
use Rattle.line.proofs.Laws.{refused_text}
use Rattle.sheet.specs.Sheet.{name_of, run_line, accepted_word, refused_word, total_word, totals, accepted_in, refused_in, sheet_of}
use Rattle.sheet.specs.Counted.{longer, lines_of, how_many, says_accepted, says_refused, value_of, is_digit, are_digits, is_count, Says, Names, Counted}

-- ---- texts without a byte 10
abbrev Free : List ℕ → Type 0
Free [] = Unit {0}
Free (c ∷ l) = (eqb c 10 ≡ false) × Free l

free_join : (v w : List ℕ) → Free v → Free w → Free (v ++ w)
free_join [] w f g = g
free_join (c ∷ v) w (h, f) g = (h, free_join v w f g)

free_digit : (n : ℕ) → eqb (48 + n) 10 ≡ false
free_digit n = ne_eqb (48 + n) 10 (λ e. omega arith)

free_decimal : (f n : ℕ) → Free (decimal f n)
unfolding decimal
free_decimal zero n = tt
free_decimal (suc f) n = by_size (ltb n 10) (free_decimal f (n / 10))
  where
    by_size : (c : Bool) → Free (decimal f (n / 10)) → Free (pick c ((48 + n) ∷ []) (decimal f (n / 10) ++ (48 + n % 10) ∷ []))
    by_size true h = (free_digit n, tt)
    by_size false h = free_join (decimal f (n / 10)) _ h (free_digit (n % 10), tt)

line_front : (w x : List ℕ) → Free w → lines_of (w ++ 10 ∷ x) ≡ w ∷ lines_of x
unfolding lines_of longer
line_front [] x f = refl
line_front (c ∷ w) x (h, f) = rw (h, line_front w x f) refl

no_lines : lines_of [] ≡ []
unfolding lines_of
no_lines = refl

-- ---- lists of lines
how_many_join : (p : List ℕ → Bool) (xs ys : List (List ℕ)) → how_many p (xs ++ ys) ≡ how_many p xs + how_many p ys
unfolding how_many
how_many_join p [] ys = sym (zero-add (how_many p ys))
how_many_join p (x ∷ xs) ys = let e = how_many_join p xs ys in omega arith

module _ (b : ℕ → List ℕ) where
  single : ℕ → List (List ℕ)
  single j = b j ∷ []

  how_many_cat : (p : List ℕ → Bool) (n : ℕ) → how_many p (cat n single) ≡ count n (λ j. p (b j))
  unfolding how_many cat count single
  how_many_cat p zero = refl
  how_many_cat p (suc n) = how_many_join p (cat n single) (single n) ∙ ap₂ (λ x y. x + y) (how_many_cat p n) (add-zero (pick (p (b n)) 1 0))

  long : (n : ℕ) → length (cat n single) ≡ n
  unfolding single
  long n = omega (arith, cat-length n 1 single (λ j h. refl))

  lines_cat : (f : ℕ → List ℕ) → ((j : ℕ) → f j ≡ b j ++ 10 ∷ []) → ((j : ℕ) → Free (b j)) → (n : ℕ) (x : List ℕ)
      → lines_of (cat n f ++ x) ≡ cat n single ++ lines_of x
  unfolding cat single
  lines_cat f h free zero x = refl
  lines_cat f h free (suc n) x =
      ap lines_of (append_assoc (cat n f) (f n) x)
      ∙ lines_cat f h free n (f n ++ x)
      ∙ ap (λ (y : List (List ℕ)). cat n single ++ y) (ap lines_of (ap (λ (y : List ℕ). y ++ x) (h n) ∙ append_assoc (b n) (10 ∷ []) x) ∙ line_front (b n) x (free n))
      ∙ sym (append_assoc (cat n single) (single n) (lines_of x))

  got : (n j : ℕ) → j < n → get_or (cat n single) j [] ≡ b j
  unfolding cat single
  got zero j h = absurd (omega arith)
  got (suc n) j h = ⊎_elim (λ e. at_end e) (λ l. get_or-append (cat n single) (single n) [] j (rw (long n) l) ∙ got n j l) (eq-or-lt_of_le (le_of_suc-le-suc h))
    where
      at_end : j ≡ n → get_or (cat n single ++ single n) j [] ≡ b j
      at_end e = rw e (get_or_at (cat n single) (b n) [] [] n (long n))

-- ---- the lines of the runs and the last one
abbrev accepted_text : List ℕ
accepted_text = 97 ∷ 99 ∷ 99 ∷ 101 ∷ 112 ∷ 116 ∷ 101 ∷ 100 ∷ []

-- the judge's line without its end
abbrev text_of : ℕ → List ℕ
text_of n = pick (eqb n 0) accepted_text (refused_text ++ decimal 10 n)

line_text : (n : ℕ) → line_of n ≡ text_of n ++ 10 ∷ []
unfolding line_of
line_text n = by_verdict (eqb n 0)
  where
    by_verdict : (c : Bool)
        → pick c (97 ∷ 99 ∷ 99 ∷ 101 ∷ 112 ∷ 116 ∷ 101 ∷ 100 ∷ 10 ∷ []) (114 ∷ 101 ∷ 102 ∷ 117 ∷ 115 ∷ 101 ∷ 100 ∷ 32 ∷ (decimal 10 n ++ 10 ∷ []))
        ≡ pick c accepted_text (refused_text ++ decimal 10 n) ++ 10 ∷ []
    by_verdict true = refl
    by_verdict false = refl

abbrev body_of : ℕ → ℕ → List ℕ
body_of i n = name_of i ++ 32 ∷ text_of n

run_line_lem : (i n : ℕ) → run_line i n ≡ body_of i n ++ 10 ∷ []
unfolding run_line name_of
run_line_lem i n = rw (line_text n) refl

free_text : (n : ℕ) → Free (text_of n)
free_text n = by_verdict (eqb n 0)
  where
    by_verdict : (c : Bool) → Free (pick c accepted_text (refused_text ++ decimal 10 n))
    by_verdict true = (refl, (refl, (refl, (refl, (refl, (refl, (refl, (refl, tt))))))))
    by_verdict false = (refl, (refl, (refl, (refl, (refl, (refl, (refl, (refl, free_decimal 10 n))))))))

free_body : (i n : ℕ) → Free (body_of i n)
unfolding name_of
free_body i n = (refl, (refl, (refl, (free_digit (i / 10), (free_digit (i % 10), (refl, free_text n))))))

says_accepted_lem : (i n : ℕ) → says_accepted (body_of i n) ≡ eqb n 0
unfolding says_accepted name_of same
says_accepted_lem i n = by_verdict (eqb n 0)
  where
    by_verdict : (c : Bool) → same (32 ∷ pick c accepted_text (refused_text ++ decimal 10 n)) (32 ∷ accepted_text) ≡ c
    by_verdict true = refl
    by_verdict false = refl

says_refused_lem : (i n : ℕ) → says_refused (body_of i n) ≡ ltb 0 n
unfolding says_refused name_of same
says_refused_lem i zero = refl
says_refused_lem i (suc n) = rw (ne_eqb (suc n) 0 (λ e. omega arith), lt-ltb 0 (suc n) (omega arith)) refl

one_of_two : (n : ℕ) → ltb 0 n ≡ not (eqb n 0)
one_of_two zero = refl
one_of_two (suc n) = rw (ne_eqb (suc n) 0 (λ e. omega arith), lt-ltb 0 (suc n) (omega arith)) refl

says-one : (i n : ℕ) → says_refused (body_of i n) ≡ not (says_accepted (body_of i n))
says-one i n = rw (says_refused_lem i n, says_accepted_lem i n) (one_of_two n)

named : (i n : ℕ) → take 5 (body_of i n) ≡ name_of i
unfolding name_of
named i n = refl

free_totals : (a r t : List ℕ) → Free a → Free r → Free t → Free (totals a r t)
unfolding totals
free_totals a r t f g h =
    free_join ((accepted_word ++ a) ++ (refused_word ++ r)) (total_word ++ t)
    (free_join (accepted_word ++ a) (refused_word ++ r)
    (refl, (refl, (refl, (refl, (refl, (refl, (refl, (refl, (refl, f)))))))))
    (refl, (refl, (refl, (refl, (refl, (refl, (refl, (refl, (refl, g))))))))))
    (refl, (refl, (refl, (refl, (refl, (refl, (refl, h)))))))

-- ---- digits
digit : (d : ℕ) → d < 10 → is_digit (48 + d) ≡ true
unfolding is_digit
digit d h = rw (lt-ltb 47 (48 + d) (omega arith), lt-ltb (48 + d) 58 (omega arith)) refl

two_digits : (a b : ℕ) → a < 10 → b < 10 → are_digits 2 ((48 + a) ∷ (48 + b) ∷ []) ≡ true
unfolding are_digits every
two_digits a b h l = rw (digit a h, digit b l) refl

two_say : (n : ℕ) → value_of 0 ((48 + n / 10) ∷ (48 + n % 10) ∷ []) ≡ n
unfolding value_of
two_say n = omega arith

named_run : (i : ℕ) → i < 100 → Names i (name_of i)
unfolding name_of
named_run i h = record { run = refl; digits = two_digits (i / 10) (i % 10) (omega arith) (omega arith); value = two_say i }

-- a number below 100 in decimal says itself
one-says : (n : ℕ) → n < 10 → Says n (decimal 2 n)
unfolding decimal is_count are_digits every value_of
one-says n h = rw (lt-ltb n 10 h) (record { count = rw (digit n h) refl; value = omega arith })

two_says : (n : ℕ) → 10 ≤ n → n < 100 → Says n (decimal 2 n)
unfolding decimal is_count
two_says n h l =
    let top : n / 10 < 10 = omega arith in
    rw (le-ltb n 10 h, lt-ltb (n / 10) 10 top) (
    record {
      count = rw (two_digits (n / 10) (n % 10) top (omega arith), lt-ltb 48 (48 + n / 10) (omega arith)) refl;
      value = two_say n;
    }
    )

says_itself : (n : ℕ) → n < 100 → Says n (decimal 2 n)
says_itself n l = ⊎_elim (λ h. one-says n (ltb-true n 10 h)) (λ h. two_says n (ltb-false n 10 h) l) (decide (ltb n 10))

-- ---- the sheet
module _ (ns : List ℕ) (few : length ns ≤ 99) where
  abbrev body : ℕ → List ℕ
  body j = body_of (suc j) (get_or ns j 0)

  abbrev bodies : List (List ℕ)
  bodies = cat (length ns) (single body)

  pub sheet_counted : Counted (sheet_of ns)
  unfolding sheet_of
  sheet_counted =
      record {
        above = bodies;
        A = decimal 2 (accepted_in ns);
        R = decimal 2 (refused_in ns);
        T = decimal 2 (length ns);
        lines =
            ap lines_of (append_assoc runs last (10 ∷ []))
            ∙ lines_cat body (λ j. run_line (suc j) (get_or ns j 0)) (λ j. run_line_lem (suc j) (get_or ns j 0)) (λ j. free_body (suc j) (get_or ns j 0)) (length ns) (last ++ 10 ∷ [])
            ∙ ap (λ (y : List (List ℕ)). bodies ++ y) (line_front last [] (free_totals _ _ _ (free_decimal 2 _) (free_decimal 2 _) (free_decimal 2 _)))
            ∙ ap (λ (y : List (List ℕ)). bodies ++ last ∷ y) no_lines;
        accepted = rw accepted_lines (says_itself (accepted_in ns) (omega (arith, count-le (length ns) (λ j. eqb (get_or ns j 0) 0))));
        refused = rw refused_lines (says_itself (refused_in ns) (omega (arith, count-le (length ns) (λ j. ltb 0 (get_or ns j 0)))));
        total = rw (long body (length ns)) (says_itself (length ns) (omega arith));
        names = λ j h. rw (line j h, named (suc j) (get_or ns j 0)) (named_run (suc j) (omega (arith, long body (length ns))));
        verdicts = λ j h. rw (line j h) (says-one (suc j) (get_or ns j 0));
      }
    where
      line : (j : ℕ) → j < length bodies → get_or bodies j [] ≡ body j
      line j h = got body (length ns) j (rw (← long body (length ns)) h)

      runs : List ℕ
      runs = cat (length ns) (λ j. run_line (suc j) (get_or ns j 0))

      last : List ℕ
      last = totals (decimal 2 (accepted_in ns)) (decimal 2 (refused_in ns)) (decimal 2 (length ns))

      accepted_lines : how_many says_accepted bodies ≡ accepted_in ns
      accepted_lines = how_many_cat body says_accepted (length ns) ∙ count_ext (length ns) _ _ (λ j h. says_accepted_lem (suc j) (get_or ns j 0))

      refused_lines : how_many says_refused bodies ≡ refused_in ns
      refused_lines = how_many_cat body says_refused (length ns) ∙ count_ext (length ns) _ _ (λ j h. says_refused_lem (suc j) (get_or ns j 0))
