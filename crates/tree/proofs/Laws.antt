-- Laws for the steps of the walks: the halves below a node, and what the parts hold.
-- Assumes nothing.
use Rattle.std.proofs.Common.{◌≡◌, refl, sym, ap, ap₂, ◌∙◌, List, [], ◌∷◌, ◌++◌, ℕ, zero, suc, ◌+◌, ◌*◌, ◌-◌, ◌/◌, ◌%◌, ◌^◌, ◌≤◌, ◌<◌, arith, length, take, drop, replicate}
use Rattle.std.proofs.Math.Nat.{two-pow-succ}
use Rattle.std.proofs.lemmas.Nat.{one_shl}
use Rattle.std.proofs.lemmas.List.{take_at, drop_at}
use Rattle.lists.specs.Index.{cat}
use Rattle.streams.specs.Streams.{block}
use Rattle.tree.specs.Tree.{left, right, leaf, opening, reopened}
use Rattle.tree.specs.TreeLaws.{left-length, leaves_zero, leaves_node, reopened_zero, reopened-left, reopened-right, opening-left, opening-right}

-- The leaves below an inner node in two halves.
pub node_pow : (d : ℕ) → (d ≡ 0 → ⊥) → 2 ^ d ≡ 2 ^ (d - 1) + 2 ^ (d - 1)
node_pow zero inner = absurd (inner refl)
node_pow (suc d) inner = let one : suc d - 1 ≡ d = omega arith in rw one (two-pow-succ d)

-- The code's 2 ^ k, by a shift.
pub shift_is : (k : ℕ) → k ≤ 5 → 1 * 2 ^ k % 18446744073709551616 ≡ 2 ^ k
shift_is k h = one_shl k 64 (omega arith)

-- ---- the leaves of a seed

pub leaves_root : (d : ℕ) (seed : List ℕ) → d ≡ 0 → cat (2 ^ d) (leaf d seed) ≡ seed
leaves_root d seed e = ap (λ n. cat (2 ^ n) (leaf n seed)) e ∙ leaves_zero seed

below_node : (d : ℕ) (seed : List ℕ) → (d ≡ 0 → ⊥)
    → cat (2 ^ d) (leaf d seed) ≡ cat (2 ^ (d - 1)) (leaf (d - 1) (left seed)) ++ cat (2 ^ (d - 1)) (leaf (d - 1) (right seed))
below_node zero seed inner = absurd (inner refl)
below_node (suc d) seed inner = let one : suc d - 1 ≡ d = omega arith in rw one (leaves_node d seed)

-- The children a and b are cut from two blocks.
pub record Children (seed a b : List ℕ) : Type 0 where
  pub first : a ≡ left seed
  pub second : b ≡ right seed

pub children : (seed x a b : List ℕ) → x ≡ block seed 0 ++ block seed 1 → a ≡ take 16 x → b ≡ drop 16 x → Children seed a b
children seed x a b e p q =
    record {
      first = p ∙ ap (λ l. take 16 l) e ∙ take_at (left seed) (right seed) 16 (left-length seed);
      second = q ∙ ap (λ l. drop 16 l) e ∙ drop_at (left seed) (right seed) 16 (left-length seed);
    }

-- Both halves of the leaves are written.
pub leaves_done : (d : ℕ) (seed a b y z : List ℕ) → (d ≡ 0 → ⊥) → Children seed a b
    → y ≡ cat (2 ^ (d - 1)) (leaf (d - 1) a) → z ≡ cat (2 ^ (d - 1)) (leaf (d - 1) b) → y ++ z ≡ cat (2 ^ d) (leaf d seed)
leaves_done d seed a b y z inner below p q =
    ap₂ (λ u v. u ++ v)
    (p ∙ ap (λ s. cat (2 ^ (d - 1)) (leaf (d - 1) s)) below.first)
    (q ∙ ap (λ s. cat (2 ^ (d - 1)) (leaf (d - 1) s)) below.second)
    ∙ sym (below_node d seed inner)

-- ---- the opening, by the half that has leaf h

pub opening_root : (d : ℕ) (seed : List ℕ) (h : ℕ) (xs : List ℕ) → d ≡ 0 → length xs ≡ 16 * d → xs ≡ opening d seed h
unfolding opening
opening_root zero seed h [] e long = refl
opening_root zero seed h (a ∷ xs) e long = absurd (omega arith)
opening_root (suc d) seed h xs e long = absurd (omega arith)

open_left : (d : ℕ) (seed : List ℕ) (h : ℕ) → (d ≡ 0 → ⊥) → h < 2 ^ (d - 1) → opening d seed h ≡ opening (d - 1) (left seed) h ++ right seed
open_left zero seed h inner below = absurd (inner refl)
open_left (suc d) seed h inner below =
    let one : suc d - 1 ≡ d = omega arith in rw one (opening-left d seed h (rw one at below))

open_right : (d : ℕ) (seed : List ℕ) (h : ℕ) → (d ≡ 0 → ⊥) → 2 ^ (d - 1) ≤ h
    → opening d seed h ≡ left seed ++ opening (d - 1) (right seed) (h - 2 ^ (d - 1))
open_right zero seed h inner above = absurd (inner refl)
open_right (suc d) seed h inner above =
    let one : suc d - 1 ≡ d = omega arith in rw one (opening-right d seed h (rw one at above))

pub open_left_done : (d : ℕ) (seed : List ℕ) (h n : ℕ) (a b y z : List ℕ) → (d ≡ 0 → ⊥) → n ≡ 2 ^ (d - 1) → h < n → Children seed a b
    → y ≡ opening (d - 1) a h → z ≡ b → y ++ z ≡ opening d seed h
open_left_done d seed h n a b y z inner e below kids p q =
    ap₂ (λ u v. u ++ v) (p ∙ ap (λ s. opening (d - 1) s h) kids.first) (q ∙ kids.second) ∙ sym (open_left d seed h inner (rw e at below))

pub open_right_done : (d : ℕ) (seed : List ℕ) (h n : ℕ) (a b y z : List ℕ) → (d ≡ 0 → ⊥) → n ≡ 2 ^ (d - 1) → n ≤ h → Children seed a b
    → y ≡ a → z ≡ opening (d - 1) b (h - n) → y ++ z ≡ opening d seed h
open_right_done d seed h n a b y z inner e above kids p q =
    ap₂ (λ u v. u ++ v) (p ∙ kids.first) (q ∙ ap₂ (λ s k. opening (d - 1) s (h - k)) kids.second e) ∙ sym (open_right d seed h inner (rw e at above))

-- ---- the leaves of an opening, by the half that has leaf h

pub reopened_root : (d h : ℕ) (x : List ℕ) → d ≡ 0 → cat (2 ^ d) (reopened d h x) ≡ replicate 16 0
reopened_root d h x e = ap (λ n. cat (2 ^ n) (reopened n h x)) e ∙ reopened_zero h x

reopen_left : (d h : ℕ) (x : List ℕ) → (d ≡ 0 → ⊥) → h < 2 ^ (d - 1)
    → cat (2 ^ d) (reopened d h x)
    ≡ cat (2 ^ (d - 1)) (reopened (d - 1) h (take (16 * (d - 1)) x)) ++ cat (2 ^ (d - 1)) (leaf (d - 1) (drop (16 * (d - 1)) x))
reopen_left zero h x inner below = absurd (inner refl)
reopen_left (suc d) h x inner below =
    let one : suc d - 1 ≡ d = omega arith in rw one (reopened-left d h x (rw one at below))

reopen_right : (d h : ℕ) (x : List ℕ) → (d ≡ 0 → ⊥) → 2 ^ (d - 1) ≤ h
    → cat (2 ^ d) (reopened d h x)
    ≡ cat (2 ^ (d - 1)) (leaf (d - 1) (take 16 x)) ++ cat (2 ^ (d - 1)) (reopened (d - 1) (h - 2 ^ (d - 1)) (drop 16 x))
reopen_right zero h x inner above = absurd (inner refl)
reopen_right (suc d) h x inner above =
    let one : suc d - 1 ≡ d = omega arith in rw one (reopened-right d h x (rw one at above))

-- Half of the leaves, counted by their bytes.
pub count_is : (d n : ℕ) → (d ≡ 0 → ⊥) → n ≡ 16 * 2 ^ d → n / 2 / 16 ≡ 2 ^ (d - 1)
count_is d n inner e = omega (arith, node_pow d inner)

pub reopen_left_done : (d h : ℕ) (x a b y z : List ℕ) (n : ℕ) → (d ≡ 0 → ⊥) → n ≡ 2 ^ (d - 1) → h < n → a ≡ take (16 * (d - 1)) x → b ≡ drop (16 * (d - 1)) x
    → y ≡ cat (2 ^ (d - 1)) (reopened (d - 1) h a) → z ≡ cat (2 ^ (d - 1)) (leaf (d - 1) b) → y ++ z ≡ cat (2 ^ d) (reopened d h x)
reopen_left_done d h x a b y z n inner e below front back p q =
    ap₂ (λ u v. u ++ v)
    (p ∙ ap (λ s. cat (2 ^ (d - 1)) (reopened (d - 1) h s)) front)
    (q ∙ ap (λ s. cat (2 ^ (d - 1)) (leaf (d - 1) s)) back)
    ∙ sym (reopen_left d h x inner (rw e at below))

pub reopen_right_done : (d h : ℕ) (x a b y z : List ℕ) (n : ℕ) → (d ≡ 0 → ⊥) → n ≡ 2 ^ (d - 1) → n ≤ h → a ≡ take 16 x → b ≡ drop 16 x
    → y ≡ cat (2 ^ (d - 1)) (leaf (d - 1) a) → z ≡ cat (2 ^ (d - 1)) (reopened (d - 1) (h - n) b) → y ++ z ≡ cat (2 ^ d) (reopened d h x)
reopen_right_done d h x a b y z n inner e above front back p q =
    ap₂ (λ u v. u ++ v)
    (p ∙ ap (λ s. cat (2 ^ (d - 1)) (leaf (d - 1) s)) front)
    (q ∙ ap₂ (λ k s. cat (2 ^ (d - 1)) (reopened (d - 1) (h - k) s)) e back)
    ∙ sym (reopen_right d h x inner (rw e at above))
