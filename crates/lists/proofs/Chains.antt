-- What chains of iterators give (std's list functions), by index as the definitions here have it.
-- Assumes nothing.
use Rattle.std.specs.Prelude.{ℕ, zero, suc, ◌+◌, ◌*◌, ◌<◌, ◌≤◌, ◌≡◌, refl, Bool, true, false, ◌&&◌, List, [], length, get_or, take, drop}
use Rattle.std.specs.List.{list_all, range_with_len}
use Rattle.std.specs.Simd.{first_chunks}
use Rattle.std.proofs.Common.{sym, ap, ◌∙◌, add-one, arith, drop-drop}
use Rattle.std.proofs.lemmas.List.Folds.{list_all_more}
use Rattle.std.proofs.lemmas.List.{take_all}
use Rattle.std.proofs.lemmas.List.FromFn.{length-range_with_len, get_or-range_with_len}
use Rattle.lists.specs.Index.{pick, every, part}
use Rattle.lists.specs.TestLaws.{every_zero, every_suc, every_ext}

and_pick : (a b : Bool) → (a && b) ≡ pick a b false
and_pick true b = refl
and_pick false b = refl

-- `xs.iter().all(p)` and `every`
every_front : (p : ℕ → Bool) (xs : List ℕ) (n : ℕ) → n ≤ length xs → list_all p (take n xs) ≡ every n (λ j. p (get_or xs j 0))
every_front p xs zero h = sym (every_zero (λ j. p (get_or xs j 0)))
every_front p xs (suc n) h =
    ap (λ (k : ℕ). list_all p (take k xs)) (sym (add-one n))
    ∙ list_all_more p xs n 0 (omega arith)
    ∙ and_pick (list_all p (take n xs)) (p (get_or xs n 0))
    ∙ ap (λ (t : Bool). pick t (p (get_or xs n 0)) false) (every_front p xs n (omega arith))
    ∙ sym (every_suc n (λ j. p (get_or xs j 0)))

pub every_list : (p : ℕ → Bool) (xs : List ℕ) → list_all p xs ≡ every (length xs) (λ j. p (get_or xs j 0))
every_list p xs = ap (λ (l : List ℕ). list_all p l) (sym (take_all (length xs) xs (omega arith))) ∙ every_front p xs (length xs) (omega arith)

-- `(0..n).all(p)` and `every`
pub every_range : (p : ℕ → Bool) (n : ℕ) → list_all p (range_with_len 0 n) ≡ every n p
every_range p n =
    every_list p (range_with_len 0 n)
    ∙ ap (λ (k : ℕ). every k (λ j. p (get_or (range_with_len 0 n) j 0))) (length-range_with_len 0 n)
    ∙ every_ext n _ _ (λ j h. ap p (omega (arith, get_or-range_with_len 0 n j 0 h)))

-- `xs.as_chunks().0.iter().all(p)` and `every`
every_first : (n : ℕ) (p : ℕ → Bool) → (p 0 && every n (λ j. p (suc j))) ≡ every (suc n) p
every_first zero p = rw (every_suc 0 p, every_zero p, every_zero (λ j. p (suc j))) (both_true (p 0))
  where
    both_true : (b : Bool) → (b && true) ≡ b
    both_true true = refl
    both_true false = refl
every_first (suc n) p =
    rw (every_suc (suc n) p, ← every_first n p, every_suc n (λ j. p (suc j))) (shifted (p 0) (every n (λ j. p (suc j))) (p (suc n)))
  where
    shifted : (a b c : Bool) → (a && pick b c false) ≡ pick (a && b) c false
    shifted true b c = refl
    shifted false b c = refl

pub every_chunk : (p : List ℕ → Bool) (n k : ℕ) (xs : List ℕ) → list_all p (first_chunks n k xs) ≡ every k (λ j. p (part xs (n * j) n))
every_chunk p n zero xs = sym (every_zero (λ j. p (part xs (n * j) n)))
every_chunk p n (suc k) xs =
    ap (λ (t : Bool). p (take n xs) && t) (every_chunk p n k (drop n xs) ∙ every_ext k _ _ (λ j h. ap (λ (l : List ℕ). p (take n l)) (later j)))
    ∙ ap (λ (l : List ℕ). p (take n l) && every k (λ j. p (part xs (n * suc j) n))) (here xs)
    ∙ every_first k (λ j. p (part xs (n * j) n))
  where
    later : (j : ℕ) → drop (n * j) (drop n xs) ≡ drop (n * suc j) xs
    later j = drop-drop (n * j) n xs ∙ ap (λ (i : ℕ). drop i xs) (omega arith)

    here : (l : List ℕ) → l ≡ drop (n * 0) l
    here l = let z : 0 ≡ n * 0 = omega arith in ap (λ (i : ℕ). drop i l) z

-- Chunk i of n entries.
pub chunk_at : (n k i : ℕ) (x : List ℕ) → i < k → get_or (first_chunks n k x) i [] ≡ part x (n * i) n
chunk_at n zero i x h = absurd (omega arith)
chunk_at n (suc k) zero x h = let z : 0 ≡ n * 0 = omega arith in ap (λ (j : ℕ). take n (drop j x)) z
chunk_at n (suc k) (suc i) x h =
    let z : n + n * i ≡ n * suc i = omega arith in
    chunk_at n k i (drop n x) (omega arith) ∙ ap (λ (l : List ℕ). take n l) (drop-drop (n * i) n x ∙ ap (λ (j : ℕ). drop j x) z)
