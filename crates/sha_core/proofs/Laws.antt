-- Laws of the definitions of FIPS 180-4, in the shape in which the loops meet them. Assumes nothing.
use Rattle.std.proofs.Common.{◌≡◌, ℕ, zero, suc, ◌+◌, ◌-◌, ◌*◌, ◌/◌, ◌%◌, ◌^◌, ◌<◌, ◌≤◌, List, [], ◌∷◌, length, get_or, slice_index_or, take, drop, set, sym, refl, ap, ◌∙◌, add-zero, add-suc, add-one, arith, length-append, take_all, take-take, get_or-take, take-suc-set, le-ltb, lt-ltb}
use Rattle.std.specs.Int.{from_be_bytes, w32}
use Rattle.std.specs.List.{fold, zip}
use Rattle.std.specs.Simd.{first_chunks}
use Rattle.std.proofs.lemmas.List.{drop_more, drop-drop}
use Rattle.sha_core.specs.declared.TheConstants.{CONSTANTS}
use native.Mathlib.Nat.{mod-add-mod}
use lib.Seq.{take-append-le}
use Rattle.sha_core.specs.Fips180.{K, M, W, σ0, σ1, schedule, round, rounds}

pub schedule-length : (n : ℕ) (b : List ℕ) → length (schedule n b) ≡ n
unfolding schedule
schedule-length zero b = refl
schedule-length (suc n) b = rw (length-append, schedule-length n b) (add-one n)

-- the schedule's first words do not depend on how many follow
pub schedule-take : (n m : ℕ) (b : List ℕ) → take n (schedule (n + m) b) ≡ schedule n b
unfolding schedule
schedule-take n zero b = rw add-zero (take_all n _ (omega (arith, schedule-length n b)))
schedule-take n (suc m) b =
    rw add-suc (take-append-le n (schedule (n + m) b) _ (omega (arith, schedule-length (n + m) b)) ∙ schedule-take n m b)

pub schedule-front : (n m : ℕ) (b : List ℕ) → n ≤ m → take n (schedule m b) ≡ schedule n b
schedule-front n m b h = let e : n + (m - n) ≡ m = omega arith in rw e at (schedule-take n (m - n) b)

-- a turn of a loop that stores W_t
pub more : (b w : List ℕ) (t x : ℕ) → t < length w → take t w ≡ schedule t b → x ≡ W b (schedule t b) t
    → take (t + 1) (set w t x) ≡ schedule (t + 1) b
unfolding schedule
more b w t x h e f = rw add-one (take-suc-set w t x h ∙ cc)

pub loaded : (b w : List ℕ) (t : ℕ) → t < 16 → W b w t ≡ M b t
unfolding W
loaded b w t h = rw (lt-ltb t 16 h)

pub computed : (b w : List ℕ) (t : ℕ) → 16 ≤ t
    → W b w t ≡ (σ1 (get_or w (t - 2) 0) + get_or w (t - 7) 0 + σ0 (get_or w (t - 15) 0) + get_or w (t - 16) 0) % 2 ^ 32
unfolding W
computed b w t h = rw (le-ltb t 16 h)

-- a word read from the array is the schedule's
pub same_word : (w x : List ℕ) (n t : ℕ) → t < n → take n w ≡ take n x → get_or w t 0 ≡ get_or x t 0
same_word w x n t h e = sym (get_or-take n w t 0 h) ∙ (ap (λ (l : List ℕ). get_or l t 0) e ∙ get_or-take n x t 0 h)

-- W_t is summed two at a time
pub w_sum : (b w : List ℕ) (t s z : ℕ) → 16 ≤ t → take t w ≡ schedule t b → s ≡ σ1 (get_or w (t - 2) 0) → z ≡ σ0 (get_or w (t - 15) 0)
    → (((s + get_or w (t - 7) 0) % 2 ^ 32 + z) % 2 ^ 32 + get_or w (t - 16) 0) % 2 ^ 32 ≡ W b (schedule t b) t
w_sum b w t s z h e f g =
    rw (computed b (schedule t b) t h) (rw (← e) (
    rw (
      get_or-take t w (t - 2) 0 (omega arith),
      get_or-take t w (t - 7) 0 (omega arith),
      get_or-take t w (t - 15) 0 (omega arith),
      get_or-take t w (t - 16) 0 (omega arith),
    ) (
    rw (← f, ← g) (chain s (get_or w (t - 7) 0) z (get_or w (t - 16) 0)))))
  where
    chain : (a b c d : ℕ) → (((a + b) % 2 ^ 32 + c) % 2 ^ 32 + d) % 2 ^ 32 ≡ (a + b + c + d) % 2 ^ 32
    chain a b c d = simp mod-add-mod

same_length : length K ≡ 64
unfolding K
same_length = refl

constants : CONSTANTS ≡ K
unfolding K
constants = refl

-- what eight turns find: the words before t were there, and so are the next eight, or those of the block
pub grown_front : (b w : List ℕ) (t : ℕ) → t + 8 ≤ 16 → take 16 w ≡ schedule 16 b → take (t + 8) w ≡ schedule (t + 8) b
grown_front b w t h e =
    sym (take-take (t + 8) 16 w h) ∙ (ap (take (t + 8)) e ∙ schedule-front (t + 8) 16 b h)

-- n turns from turn t on, where w starts with the words x
turns_more : (n t : ℕ) (h w x v : List ℕ) → t + n ≤ 64 → t + n ≤ length w → take (t + n) w ≡ take (t + n) x → v ≡ rounds t h x
    → fold (λ (v : List ℕ) (p : ℕ × ℕ). round v p.0 p.1) v (zip (take n (drop t K)) (take n (drop t w))) ≡ rounds (t + n) h x
unfolding rounds
turns_more zero t h w x v k l e f = f ∙ ap (λ (n : ℕ). rounds n h x) (omega arith)
turns_more (suc n) t h w x v k l e f =
    let next : t + 1 + n ≡ t + suc n = omega arith in
    let one : round v (get_or K t 0) (get_or w t 0) ≡ rounds (t + 1) h x =
    rw (add-one t) (ap (λ (u : List ℕ). round u (get_or K t 0) (get_or w t 0)) f
    ∙ ap (round (rounds t h x) (get_or K t 0)) (same_word w x (t + suc n) t (omega arith) e)) in
    rw (drop_more K t 0 (omega (arith, same_length)), drop_more w t 0 (omega arith))
    (turns_more n (t + 1) h w x _ (omega arith) (omega arith) (rw next e) one ∙ ap (λ (n : ℕ). rounds n h x) next)

pub eight_turns : (n t : ℕ) (h w x v : List ℕ) → n ≡ 8 → t + 8 ≤ 64 → length w ≡ 64 → take (t + 8) w ≡ take (t + 8) x → v ≡ rounds t h x
    → fold (λ (v : List ℕ) (p : ℕ × ℕ). round v p.0 p.1) v (zip (take n (drop t CONSTANTS)) (take n (drop t w))) ≡ rounds (t + 8) h x
eight_turns n t h w x v e k l g f = rw (e, constants) (turns_more 8 t h w x v k (omega arith) g f)

-- the words of a block as std's pieces of four
piece_at : (k : ℕ) (b : List ℕ) (t : ℕ) → t < k → slice_index_or (first_chunks 4 k b) t [] ≡ take 4 (drop (4 * t) b)
piece_at zero b t h = absurd (omega arith)
piece_at (suc k) b zero h = refl
piece_at (suc k) b (suc t) h =
    piece_at k (drop 4 b) t (omega arith) ∙ ap (take 4) (drop-drop (4 * t) 4 b ∙ ap (λ (n : ℕ). drop n b) (omega arith))

four_at : (b : List ℕ) (j : ℕ) → j + 4 ≤ length b
    → take 4 (drop j b) ≡ get_or b j 0 ∷ get_or b (j + 1) 0 ∷ get_or b (j + 2) 0 ∷ get_or b (j + 3) 0 ∷ []
four_at b j h =
    let two : j + 1 + 1 ≡ j + 2 = omega arith in
    let three : j + 2 + 1 ≡ j + 3 = omega arith in
    rw (
      drop_more b j 0 (omega arith),
      drop_more b (j + 1) 0 (omega arith),
      two,
      drop_more b (j + 2) 0 (omega arith),
      three,
      drop_more b (j + 3) 0 (omega arith),
    ) refl

pub read_word : (b : List ℕ) (t : ℕ) → 4 * t + 4 ≤ length b → from_be_bytes w32 (slice_index_or (first_chunks 4 (length b / 4) b) t []) ≡ M b t
unfolding M
read_word b t h = rw (piece_at (length b / 4) b t (omega arith), four_at b (4 * t) h) refl
