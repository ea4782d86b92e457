-- Laws of the seed tree: lengths, bytes, what an opening gives back, and the two halves below a node.
-- Assumes nothing.
use Rattle.std.specs.Prelude.{ℕ, zero, suc, ◌+◌, ◌*◌, ◌-◌, ◌^◌, ◌≤◌, ◌<◌, Bool, true, false, ◌≡◌, refl, List, ◌++◌, ltb, length, take, drop, replicate}
use Rattle.std.proofs.Common.{ap, ap₂, ◌∙◌, mul_comm, arith, ltb-true, ltb-false, lt-ltb, le-ltb, length-append, length-drop, length-take-le, take_at, drop_at}
use Rattle.std.proofs.Math.Nat.{two-pow-succ}
use Rattle.lists.specs.Index.{pick, cat}
use Rattle.lists.specs.ByteList.{Bytes, bytes_take, bytes_drop, bytes-pick, bytes-zeros}
use Rattle.lists.specs.CatLaws.{cat_ext, cat_split, cat-length}
use Rattle.streams.specs.Streams.{block-length}
use Rattle.streams.specs.ByteLaws.{block-bytes}
use Rattle.tree.specs.Tree.{left, right, leaf, opening, reopened}

pick-length : (n : ℕ) (b : Bool) (x y : List ℕ) → length x ≡ n → length y ≡ n → length (pick b x y) ≡ n
pick-length n true x y p q = p
pick-length n false x y p q = q

-- A child has 16 bytes.
pub left-length : (seed : List ℕ) → length (left seed) ≡ 16
left-length seed = block-length seed _

pub right-length : (seed : List ℕ) → length (right seed) ≡ 16
right-length seed = block-length seed _

-- A leaf has 16 bytes if its root has.
pub leaf-length : (d : ℕ) (seed : List ℕ) (i : ℕ) → length seed ≡ 16 → length (leaf d seed i) ≡ 16
unfolding leaf
leaf-length zero seed i long = long
leaf-length (suc d) seed i long =
    pick-length 16 (ltb i (2 ^ d)) _ _ (leaf-length d (left seed) i (left-length seed)) (leaf-length d (right seed) (i - 2 ^ d) (right-length seed))

-- An opening has a seed for each level.
pub opening-length : (d : ℕ) (seed : List ℕ) (h : ℕ) → length (opening d seed h) ≡ 16 * d
unfolding opening
opening-length zero seed h = refl
opening-length (suc d) seed h =
    pick-length (16 * suc d) (ltb h (2 ^ d)) _ _
    (length-append (opening d (left seed) h) (right seed) ∙ (omega (arith, opening-length d (left seed) h, right-length seed)))
    (length-append (left seed) (opening d (right seed) (h - 2 ^ d))
    ∙ (omega (arith, opening-length d (right seed) (h - 2 ^ d), left-length seed)))

-- A leaf from an opening has 16 bytes.
pub reopened-length : (d h : ℕ) (x : List ℕ) (i : ℕ) → length x ≡ 16 * d → length (reopened d h x i) ≡ 16
unfolding reopened
reopened-length zero h x i long = refl
reopened-length (suc d) h x i long =
    pick-length 16 (ltb h (2 ^ d)) _ _
    (pick-length 16 (ltb i (2 ^ d)) _ _
    (reopened-length d h (take (16 * d) x) i (length-take-le (16 * d) x (omega arith)))
    (leaf-length d (drop (16 * d) x) (i - 2 ^ d) (length-drop (16 * d) x ∙ (omega arith))))
    (pick-length 16 (ltb i (2 ^ d)) _ _
    (leaf-length d (take 16 x) i (length-take-le 16 x (omega arith)))
    (reopened-length d (h - 2 ^ d) (drop 16 x) (i - 2 ^ d) (length-drop 16 x ∙ (omega arith))))

-- Seeds of bytes give leaves of bytes.
pub leaf-bytes : (d : ℕ) (seed : List ℕ) (i : ℕ) → Bytes seed → Bytes (leaf d seed i)
unfolding leaf
leaf-bytes zero seed i b = b
leaf-bytes (suc d) seed i b =
    bytes-pick (ltb i (2 ^ d)) (leaf-bytes d (left seed) i (block-bytes seed _ b)) (leaf-bytes d (right seed) (i - 2 ^ d) (block-bytes seed _ b))

pub reopened-bytes : (d h : ℕ) (x : List ℕ) (i : ℕ) → Bytes x → Bytes (reopened d h x i)
unfolding reopened
reopened-bytes zero h x i b = bytes-zeros 16
reopened-bytes (suc d) h x i b =
    bytes-pick (ltb h (2 ^ d))
    (bytes-pick (ltb i (2 ^ d))
    (reopened-bytes d h (take (16 * d) x) i (bytes_take (16 * d) x b))
    (leaf-bytes d (drop (16 * d) x) (i - 2 ^ d) (bytes_drop (16 * d) x b)))
    (bytes-pick (ltb i (2 ^ d))
    (leaf-bytes d (take 16 x) i (bytes_take 16 x b))
    (reopened-bytes d (h - 2 ^ d) (drop 16 x) (i - 2 ^ d) (bytes_drop 16 x b)))

-- The leaves recomputed from an opening are the original ones, but for the hidden leaf.
pub reopens : (d : ℕ) (seed : List ℕ) (h i : ℕ) → h < 2 ^ d → i < 2 ^ d → (i ≡ h → ⊥)
    → reopened d h (opening d seed h) i ≡ leaf d seed i
unfolding leaf opening reopened
reopens zero seed h i below inside other = absurd (other (omega arith))
reopens (suc d) seed h i below inside other = go (ltb h (2 ^ d)) (ltb i (2 ^ d)) refl refl
    (λ p q. reopens d (left seed) h i p q other)
    (λ p q. reopens d (right seed) (h - 2 ^ d) (i - 2 ^ d) (omega (arith, two-pow-succ d)) (omega (arith, two-pow-succ d)) (λ e. other (omega arith)))
  where
    go : (a b : Bool) → ltb h (2 ^ d) ≡ a → ltb i (2 ^ d) ≡ b
        → (h < 2 ^ d → i < 2 ^ d → reopened d h (opening d (left seed) h) i ≡ leaf d (left seed) i)
        → (2 ^ d ≤ h → 2 ^ d ≤ i → reopened d (h - 2 ^ d) (opening d (right seed) (h - 2 ^ d)) (i - 2 ^ d) ≡ leaf d (right seed) (i - 2 ^ d))
        → (let x = pick a (opening d (left seed) h ++ right seed) (left seed ++ opening d (right seed) (h - 2 ^ d)) in
        pick a
        (pick b (reopened d h (take (16 * d) x) i) (leaf d (drop (16 * d) x) (i - 2 ^ d)))
        (pick b (leaf d (take 16 x) i) (reopened d (h - 2 ^ d) (drop 16 x) (i - 2 ^ d))))
        ≡ pick b (leaf d (left seed) i) (leaf d (right seed) (i - 2 ^ d))
    go true true p q lft rgt =
        ap (λ x. reopened d h x i) (take_at (opening d (left seed) h) (right seed) (16 * d) (opening-length d (left seed) h))
        ∙ lft (ltb-true h (2 ^ d) p) (ltb-true i (2 ^ d) q)
    go true false p q lft rgt =
        ap (λ x. leaf d x (i - 2 ^ d)) (drop_at (opening d (left seed) h) (right seed) (16 * d) (opening-length d (left seed) h))
    go false true p q lft rgt =
        ap (λ x. leaf d x i) (take_at (left seed) (opening d (right seed) (h - 2 ^ d)) 16 (left-length seed))
    go false false p q lft rgt =
        ap (λ x. reopened d (h - 2 ^ d) x (i - 2 ^ d)) (drop_at (left seed) (opening d (right seed) (h - 2 ^ d)) 16 (left-length seed))
        ∙ rgt (ltb-false h (2 ^ d) p) (ltb-false i (2 ^ d) q)

-- A list of 2 ^ (d + 1) items in two halves.
halves : (d : ℕ) (f g₁ g₂ : ℕ → List ℕ) → ((k : ℕ) → k < 2 ^ d → f k ≡ g₁ k) → ((k : ℕ) → k < 2 ^ d → f (2 ^ d + k) ≡ g₂ k)
    → cat (2 ^ suc d) f ≡ cat (2 ^ d) g₁ ++ cat (2 ^ d) g₂
halves d f g₁ g₂ p q =
    ap (λ n. cat n f) (two-pow-succ d) ∙ cat_split (2 ^ d) (2 ^ d) f
    ∙ ap₂ (λ x y. x ++ y) (cat_ext (2 ^ d) p) (cat_ext (2 ^ d) q)

-- The test of the two halves.
in_left : (d k : ℕ) (x y : List ℕ) → k < 2 ^ d → pick (ltb k (2 ^ d)) x y ≡ x
in_left d k x y h = rw (lt-ltb k (2 ^ d) h)

in_right : (d k : ℕ) (x : List ℕ) (f : ℕ → List ℕ) → pick (ltb (2 ^ d + k) (2 ^ d)) x (f (2 ^ d + k - 2 ^ d)) ≡ f k
in_right d k x f = let back : 2 ^ d + k - 2 ^ d ≡ k = omega arith in rw (le-ltb (2 ^ d + k) (2 ^ d) (omega arith)) (ap f back)

-- The leaves below a node: those below its left child, then those below its right child.
pub leaves_zero : (seed : List ℕ) → cat (2 ^ 0) (leaf 0 seed) ≡ seed
unfolding cat leaf
leaves_zero seed = refl

pub leaves_node : (d : ℕ) (seed : List ℕ)
    → cat (2 ^ suc d) (leaf (suc d) seed) ≡ cat (2 ^ d) (leaf d (left seed)) ++ cat (2 ^ d) (leaf d (right seed))
unfolding leaf
leaves_node d seed =
    halves d (leaf (suc d) seed) (leaf d (left seed)) (leaf d (right seed))
    (λ k h. in_left d k (leaf d (left seed) k) (leaf d (right seed) (k - 2 ^ d)) h)
    (λ k h. in_right d k (leaf d (left seed) (2 ^ d + k)) (leaf d (right seed)))

-- The same from an opening, with the hidden leaf below the left child or below the right one.
pub reopened_zero : (h : ℕ) (x : List ℕ) → cat (2 ^ 0) (reopened 0 h x) ≡ replicate 16 0
unfolding cat reopened
reopened_zero h x = refl

pub reopened-left : (d h : ℕ) (x : List ℕ) → h < 2 ^ d
    → cat (2 ^ suc d) (reopened (suc d) h x) ≡ cat (2 ^ d) (reopened d h (take (16 * d) x)) ++ cat (2 ^ d) (leaf d (drop (16 * d) x))
unfolding reopened
reopened-left d h x below =
    halves d (reopened (suc d) h x) (reopened d h (take (16 * d) x)) (leaf d (drop (16 * d) x))
    (λ k hk. rw (lt-ltb h (2 ^ d) below) (in_left d k (reopened d h (take (16 * d) x) k) (leaf d (drop (16 * d) x) (k - 2 ^ d)) hk))
    (λ k hk. rw (lt-ltb h (2 ^ d) below) (in_right d k (reopened d h (take (16 * d) x) (2 ^ d + k)) (leaf d (drop (16 * d) x))))

pub reopened-right : (d h : ℕ) (x : List ℕ) → 2 ^ d ≤ h
    → cat (2 ^ suc d) (reopened (suc d) h x) ≡ cat (2 ^ d) (leaf d (take 16 x)) ++ cat (2 ^ d) (reopened d (h - 2 ^ d) (drop 16 x))
unfolding reopened
reopened-right d h x above =
    halves d (reopened (suc d) h x) (leaf d (take 16 x)) (reopened d (h - 2 ^ d) (drop 16 x))
    (λ k hk. rw (le-ltb h (2 ^ d) above) (in_left d k (leaf d (take 16 x) k) (reopened d (h - 2 ^ d) (drop 16 x) (k - 2 ^ d)) hk))
    (λ k hk. rw (le-ltb h (2 ^ d) above) (in_right d k (leaf d (take 16 x) (2 ^ d + k)) (reopened d (h - 2 ^ d) (drop 16 x))))

-- All leaves have 16 bytes each.
pub leaves_length : (d : ℕ) (seed : List ℕ) → length seed ≡ 16 → length (cat (2 ^ d) (leaf d seed)) ≡ 16 * 2 ^ d
leaves_length d seed long =
    cat-length (2 ^ d) 16 (leaf d seed) (λ k h. leaf-length d seed k long) ∙ mul_comm (2 ^ d) 16

pub all_reopened-length : (d h : ℕ) (x : List ℕ) → length x ≡ 16 * d → length (cat (2 ^ d) (reopened d h x)) ≡ 16 * 2 ^ d
all_reopened-length d h x long =
    cat-length (2 ^ d) 16 (reopened d h x) (λ k b. reopened-length d h x k long) ∙ mul_comm (2 ^ d) 16

-- An opening below a node.
pub opening-left : (d : ℕ) (seed : List ℕ) (h : ℕ) → h < 2 ^ d → opening (suc d) seed h ≡ opening d (left seed) h ++ right seed
unfolding opening
opening-left d seed h below = rw (lt-ltb h (2 ^ d) below)

pub opening-right : (d : ℕ) (seed : List ℕ) (h : ℕ) → 2 ^ d ≤ h → opening (suc d) seed h ≡ left seed ++ opening d (right seed) (h - 2 ^ d)
unfolding opening
opening-right d seed h above = rw (le-ltb h (2 ^ d) above)
