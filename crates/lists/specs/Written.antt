-- Lists that are written in place: entry by entry, item after item, and part after part. What a loan of a part leaves is what stood
-- before the part, the part as it was written, and what stood after it.
-- Assumes nothing.
use Rattle.std.specs.Prelude.{ℕ, zero, suc, ◌+◌, ◌-◌, ◌≤◌, ◌<◌, ◌≡◌, refl, List, [], ◌∷◌, ◌++◌, length, get_or, set, take, drop}
use Rattle.std.proofs.Common.{sym, ◌∙◌, ap, ap₂, append-nil, append_assoc, add-one, arith, length-append, length-drop, take-append-drop, drop_of_length-le, drop-cons, drop-drop, take_at, drop_at, take_all}
use Rattle.std.proofs.lemmas.List.{set_at}
use Rattle.lists.specs.Tab.{tab, tab-length}
use Rattle.lists.specs.Index.{cat}
use Rattle.lists.specs.CatLaws.{cat-more}

-- ---- entry by entry

-- A list of four entries, each of which was stored.
pub four-stored : (l : List ℕ) (a b c d : ℕ) → length l ≡ 4 → set (set (set (set l 0 a) 1 b) 2 c) 3 d ≡ a ∷ b ∷ c ∷ d ∷ []
four-stored [] a b c d h = absurd (omega arith)
four-stored (x ∷ []) a b c d h = absurd (omega arith)
four-stored (x ∷ y ∷ []) a b c d h = absurd (omega arith)
four-stored (x ∷ y ∷ z ∷ []) a b c d h = absurd (omega arith)
four-stored (x ∷ y ∷ z ∷ w ∷ []) a b c d h = refl
four-stored (x ∷ y ∷ z ∷ w ∷ v ∷ l) a b c d h = absurd (omega arith)

-- One entry more of a table, at its end.
pub tab-more : (n : ℕ) (f : ℕ → ℕ) → tab (suc n) f ≡ tab n f ++ f n ∷ []
unfolding tab
tab-more zero f = refl
tab-more (suc n) f = ap (λ (l : List ℕ). f 0 ∷ l) (tab-more n (λ k. f (suc k)))

-- A table that is written over the front of a list: the next entry.
pub front-more : (n : ℕ) (f : ℕ → ℕ) (l : List ℕ) → n < length l → set (tab n f ++ drop n l) n (f n) ≡ tab (n + 1) f ++ drop (n + 1) l
front-more n f l h =
    rw (add-one, drop-cons l n 0 h, tab-more)
    (set_at (tab n f) (get_or l n 0) (drop (suc n) l) (f n) n (tab-length n f) ∙ sym (append_assoc (tab n f) (f n ∷ []) (drop (suc n) l)))

-- ---- item after item

-- ys stands at a place and ends at `to`, all else is as before
pub record Puts (at to : ℕ) (ys before after : List ℕ) : Type 0 where
  pub long : to ≡ at + length ys
  pub is : after ≡ take at before ++ ys ++ drop to before

pub puts_none : (at : ℕ) (l : List ℕ) → Puts at at [] l l
puts_none at l = record { long = omega arith; is = rw append-nil (sym (take-append-drop at l)) }

pub puts_some : (at n : ℕ) (ys l : List ℕ) → length ys ≡ n → Puts at (at + n) ys l (take at l ++ (ys ++ drop (at + n - at) (drop at l)))
puts_some at n ys l h =
    let z : at + n - at ≡ n = omega arith in
    record { long = omega arith; is = rw (z, drop-drop n at l) (sym (append_assoc (take at l) ys (drop (at + n) l))) }

-- f 0 .. f (x - 1) stand in front and end at a place
pub record Built (f : ℕ → List ℕ) (x at : ℕ) (before after : List ℕ) : Type 0 where
  pub long : at ≡ length (cat x f)
  pub is : after ≡ cat x f ++ drop at before

pub built_none : (f : ℕ → List ℕ) (l : List ℕ) → Built f 0 0 l l
unfolding cat
built_none f l = record { long = refl; is = refl }

pub built_more : {f : ℕ → List ℕ} {x at to : ℕ} {ys l o r : List ℕ} → Built f x at l o → Puts at to ys o r → ys ≡ f x → Built f (x + 1) to l r
built_more {f} {x} {at} {to} {ys} {l} {o} {r} a b e =
    record {
      long = rw (cat-more x f, length-append (cat x f) (f x), ← e, ← a.long) b.long;
      is = rw (cat-more x f, ← e, b.is, a.is, take_at (cat x f) (drop at l) at (sym a.long), later) refl;
    }
  where
    later : drop to (cat x f ++ drop at l) ≡ drop to l
    later =
        rw b.long (rw (← drop-drop (length ys) at (cat x f ++ drop at l), drop_at (cat x f) (drop at l) at (sym a.long)) (drop-drop (length ys) at l))

-- one more item, of w entries
pub built_item : {f : ℕ → List ℕ} {x at : ℕ} {l o : List ℕ} (w : ℕ) (ys : List ℕ) → Built f x at l o → ys ≡ f x → length ys ≡ w
    → Built f (x + 1) (at + w) l (take at o ++ (ys ++ drop (at + w - at) (drop at o)))
built_item {f} {x} {at} {l} {o} w ys a e h = built_more a (puts_some at w ys o h) e

-- the same, the place written another way
pub built_at : {f : ℕ → List ℕ} {x at to : ℕ} {l o : List ℕ} → at ≡ to → Built f x at l o → Built f x to l o
built_at e a = rw e at a

pub built_all : {f : ℕ → List ℕ} {x n at : ℕ} {l o : List ℕ} → Built f x at l o → x ≡ n → length l ≤ at → o ≡ cat n f
built_all {f} {x} {n} {at} {l} a e h = a.is ∙ rw (drop_of_length-le l {i = at} h, append-nil) (ap (λ k. cat k f) e)

-- ---- part after part
pub two_parts : (out a b : List ℕ) (mid n : ℕ) → length a ≡ mid → length (drop mid out) ≤ n
    → take mid (a ++ drop mid out) ++ (b ++ drop n (drop mid (a ++ drop mid out))) ≡ a ++ b
two_parts out a b mid n h k =
    rw (take_at a (drop mid out) mid h, drop_at a (drop mid out) mid h, drop_of_length-le (drop mid out) {i = n} k, append-nil) refl

pub both_parts : (out a b : List ℕ) (mid : ℕ) → length a ≡ mid
    → take mid (a ++ drop mid out) ++ (b ++ drop (length (a ++ drop mid out) - mid) (drop mid (a ++ drop mid out))) ≡ a ++ b
both_parts out a b mid h = two_parts out a b mid (length (a ++ drop mid out) - mid) h (omega (arith, length-append a (drop mid out)))

pub parts_joined : {a' b' : List ℕ} (out a b : List ℕ) (mid : ℕ) → length a ≡ mid → a ≡ a' → b ≡ b'
    → take mid (a ++ drop mid out) ++ (b ++ drop (length (a ++ drop mid out) - mid) (drop mid (a ++ drop mid out))) ≡ a' ++ b'
parts_joined out a b mid h e k = both_parts out a b mid h ∙ ap₂ (λ (x y : List ℕ). x ++ y) e k

pub later_part : (out a : List ℕ) (mid : ℕ) → length a ≡ mid
    → length (take (length (a ++ drop mid out) - mid) (drop mid (a ++ drop mid out))) ≡ length out - mid
later_part out a mid h =
    let n : length (drop mid out) ≤ length (a ++ drop mid out) - mid = omega (arith, length-append a (drop mid out)) in
    rw (drop_at a (drop mid out) mid h, take_all (length (a ++ drop mid out) - mid) (drop mid out) n) (length-drop mid out)

-- All that follows a place is lent, and ys is written in front of it: ys stands at the place, all else is as before.
pub tail_written : (ys r out : List ℕ) (from n : ℕ) → r ≡ ys ++ drop n (take (length out - from) (drop from out))
    → take from out ++ (r ++ drop (length out - from) (drop from out)) ≡ take from out ++ ys ++ drop (from + n) out
tail_written ys r out from n y =
    let all : length (drop from out) ≤ length out - from = omega (arith, length-drop from out) in
    rw (y, take_all (length out - from) (drop from out) all, drop_of_length-le (drop from out) {i = length out - from} all, append-nil, drop-drop n from out)
    (sym (append_assoc (take from out) ys (drop (from + n) out)))
