-- Digests that are stored one after the other in a list, at three places.
-- Assumes nothing.
use Prim.Native.Nat.{ℕ, ◌+◌, ◌*◌, ◌-◌, ◌<◌, ◌≤◌}
use mathlib.Core.Path.{◌≡◌, refl, sym, ◌∙◌, ap, subst}
use mathlib.Core.Bool.{Bool, true, false}
use mathlib.Core.List.{List, [], ◌++◌, append-nil, append_assoc}
use native.Mathlib.Omega.{arith}
use lib.ListN.{length, take, drop, length-append, length-drop}
use lib.Seq.{length-take-le, drop-drop, take-add}
use Rattle.lists.specs.Index.{part}
use Rattle.lists.specs.CatLaws.{part_length, part_mid, part_left, part_right, part-part}
use Rattle.walk.specs.Walk.{put, placed, Stored}

pub put-long : (x ys : List ℕ) (at n : ℕ) → length ys ≡ n → at + n ≤ length x → length (put x at n ys) ≡ length x
put-long x ys at n e h =
    length-append (take at x) (ys ++ drop n (drop at x))
    ∙ omega (arith, length-take-le at x (omega arith), length-append ys (drop n (drop at x)), length-drop n (drop at x), length-drop at x, e, h)

-- what stands before and after the place is kept
pub put_below : (x ys : List ℕ) (at n i k : ℕ) → i + k ≤ at → at ≤ length x → part (put x at n ys) i k ≡ part x i k
put_below x ys at n i k h l =
    part_left (take at x) (ys ++ drop n (drop at x)) i k (omega (arith, length-take-le at x l))
    ∙ (part-part x 0 at i k h ∙ (let z : 0 + i ≡ i = omega arith in ap (λ (y : ℕ). part x y k) z))

pub put-above : (x ys : List ℕ) (at n i k : ℕ) → length ys ≡ n → at + n ≤ i → at ≤ length x → part (put x at n ys) i k ≡ part x i k
put-above x ys at n i k e h l =
    let w : i ≡ at + (n + (i - at - n)) = omega arith in
    let z : at + n + (i - at - n) ≡ i = omega arith in
    ap (λ (y : ℕ). part (put x at n ys) y k) w
    ∙ (part_right (take at x) (ys ++ drop n (drop at x)) at (n + (i - at - n)) k (length-take-le at x l)
    ∙ (part_right ys (drop n (drop at x)) n (i - at - n) k e
    ∙ ap (take k) (ap (drop (i - at - n)) (drop-drop n at x) ∙ (drop-drop (i - at - n) (at + n) x ∙ ap (λ (y : ℕ). drop y x) z))))

-- what ends at the place goes on
pub put_next : (x ys : List ℕ) (at n i k : ℕ) → length ys ≡ n → i + k ≡ at → at + n ≤ length x → part (put x at n ys) i (k + n) ≡ part x i k ++ ys
put_next x ys at n i k e w h =
    let front : take at x ≡ take i x ++ part x i k = ap (λ (y : ℕ). take y x) (sym w) ∙ take-add i k x in
    ap (λ (y : List ℕ). part (y ++ (ys ++ drop n (drop at x))) i (k + n)) front
    ∙ (ap (λ (y : List ℕ). part y i (k + n)) (regroup (take i x) (part x i k) ys (drop n (drop at x)))
    ∙ part_mid (take i x) (part x i k ++ ys) (drop n (drop at x)) i (k + n) (length-take-le i x (omega arith))
    (length-append (part x i k) ys ∙ omega (arith, part_length x i k (omega arith), e)))
  where
    regroup : (a b c d : List ℕ) → (a ++ b) ++ (c ++ d) ≡ a ++ (b ++ c) ++ d
    regroup a b c d = simp append_assoc

-- of an opened execution only h(e) is stored
pub stored-opened : {M c e p : ℕ} {t : Bool} (h pi psi x : List ℕ) → t ≡ true → e < M → length h ≡ 32 → length x ≡ 32 * M + 64 * c → p ≤ c
    → Stored M c e p t h pi psi x (put x (32 * e) 32 h) × (put x (32 * e) 32 h ≡ placed M c e p t h pi psi x)
stored-opened {M} {c} {e} {p} {t} h pi psi x is below lh lx lp = (
  subst (λ (b : Bool). Stored M c e p b h pi psi x (put x (32 * e) 32 h)) (sym is) made,
  ap (λ (b : Bool). placed M c e p b h pi psi x) (sym is),
)
  where
    same : (i : ℕ) → 32 * M ≤ i → part (put x (32 * e) 32 h) i (32 * p + 0) ≡ part x i (32 * p) ++ []
    same i l =
        let z : 32 * p + 0 ≡ 32 * p = omega arith in
        ap (λ (w : ℕ). part (put x (32 * e) 32 h) i w) z ∙ (put-above x h (32 * e) 32 i (32 * p) lh (omega arith) (omega arith) ∙ sym (append-nil (part x i (32 * p))))

    made : Stored M c e p true h pi psi x (put x (32 * e) 32 h)
    made =
        record {
          long = put-long x h (32 * e) 32 lh (omega arith);
          Γ = put_next x h (32 * e) 32 0 (32 * e) lh (omega arith) (omega arith);
          Π = same (32 * M) (omega arith);
          Ψ = same (32 * M + 32 * c) (omega arith);
        }

-- a kept one: all three
pub stored-kept : {M c e p : ℕ} {t : Bool} (h pi psi x : List ℕ) → t ≡ false → e < M → p < c → length h ≡ 32 → length pi ≡ 32 → length psi ≡ 32
    → length x ≡ 32 * M + 64 * c
    → Stored M c e p t h pi psi x (put (put (put x (32 * e) 32 h) (32 * M + 32 * p) 32 pi) (32 * M + 32 * c + 32 * p) 32 psi)
    × (put (put (put x (32 * e) 32 h) (32 * M + 32 * p) 32 pi) (32 * M + 32 * c + 32 * p) 32 psi ≡ placed M c e p t h pi psi x)
stored-kept {M} {c} {e} {p} {t} h pi psi x is below lp lh li ls lx = (
  subst (λ (b : Bool). Stored M c e p b h pi psi x third) (sym is) made,
  ap (λ (b : Bool). placed M c e p b h pi psi x) (sym is),
)
  where
    one : List ℕ
    one = put x (32 * e) 32 h

    two : List ℕ
    two = put one (32 * M + 32 * p) 32 pi

    third : List ℕ
    third = put two (32 * M + 32 * c + 32 * p) 32 psi

    long1 : length one ≡ length x
    long1 = put-long x h (32 * e) 32 lh (omega arith)

    long2 : length two ≡ length x
    long2 = put-long one pi (32 * M + 32 * p) 32 li (omega (arith, long1)) ∙ long1

    long3 : length third ≡ length x
    long3 = put-long two psi (32 * M + 32 * c + 32 * p) 32 ls (omega (arith, long2)) ∙ long2

    made : Stored M c e p false h pi psi x third
    made =
        record {
          long = long3;
          Γ =
              put_below two psi (32 * M + 32 * c + 32 * p) 32 0 (32 * e + 32) (omega arith) (omega (arith, long2))
              ∙ (put_below one pi (32 * M + 32 * p) 32 0 (32 * e + 32) (omega arith) (omega (arith, long1))
              ∙ put_next x h (32 * e) 32 0 (32 * e) lh (omega arith) (omega arith));
          Π =
              put_below two psi (32 * M + 32 * c + 32 * p) 32 (32 * M) (32 * p + 32) (omega arith) (omega (arith, long2))
              ∙ (put_next one pi (32 * M + 32 * p) 32 (32 * M) (32 * p) li refl (omega (arith, long1))
              ∙ ap (λ (y : List ℕ). y ++ pi) (put-above x h (32 * e) 32 (32 * M) (32 * p) lh (omega arith) (omega arith)));
          Ψ =
              put_next two psi (32 * M + 32 * c + 32 * p) 32 (32 * M + 32 * c) (32 * p) ls (omega arith) (omega (arith, long2))
              ∙ ap (λ (y : List ℕ). y ++ psi)
              (put_below_or-above ∙ put-above x h (32 * e) 32 (32 * M + 32 * c) (32 * p) lh (omega arith) (omega arith));
        }
      where
        put_below_or-above : part two (32 * M + 32 * c) (32 * p) ≡ part one (32 * M + 32 * c) (32 * p)
        put_below_or-above = put-above one pi (32 * M + 32 * p) 32 (32 * M + 32 * c) (32 * p) li (omega arith) (omega (arith, long1))
