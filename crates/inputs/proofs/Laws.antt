-- Laws for the inputs of Γ, h(e) and Ω.
-- Assumes nothing.
use Prim.Native.Nat.{ℕ, suc, ◌+◌, ◌*◌, ◌-◌, ◌<◌, ◌≤◌}
use mathlib.Core.Path.{◌≡◌, refl, sym}
use mathlib.Core.List.{List, [], ◌++◌}
use native.Mathlib.Omega.{arith}
use borrow.Author.Tests.{eq-eqb, ne_eqb}
use lib.ListN.{length, take, drop}
use Rattle.lists.specs.Index.{cat, part}
use Rattle.lists.specs.Bytes.{words}
use Rattle.streams.specs.Streams.{block}
use Rattle.protocol.specs.Shares.{input}
use Rattle.lists.specs.Written.{Built, built_all, built_item}
use Rattle.inputs.specs.Steps.{gamma_in}

-- ---- the inputs
-- Γ(i)'s input of a party that is not N
pub other_in : (m N e i : ℕ) {seed : List ℕ} (leaves work : List ℕ) → seed ≡ part leaves (16 * i) 16 → suc i < N
    → input 3 (e + 1) (i + 1) (seed ++ words [] ++ block seed 0) ≡ gamma_in m N e leaves work i
unfolding gamma_in
other_in m N e i leaves work s h =
    rw (s, ne_eqb (suc i) N (λ z. let v : ⊥ = omega arith in v)) refl

-- party N's
pub last_in : (m N e : ℕ) {seed : List ℕ} (leaves work : List ℕ) → seed ≡ part leaves (16 * (N - 1)) 16 → 1 ≤ N
    → input 3 (e + 1) N
    (seed ++ words (take (3 * m * (N - 1) + m + m - (3 * m * (N - 1) + m)) (drop (3 * m * (N - 1) + m) work)) ++ block seed 0)
    ≡ gamma_in m N e leaves work (N - 1)
unfolding gamma_in
last_in m N e leaves work s h =
    let y : 3 * m * (N - 1) + m + m - (3 * m * (N - 1) + m) ≡ m = omega arith in
    let z : suc (N - 1) ≡ N = omega arith in
    let w : N - 1 + 1 ≡ N = omega arith in
    rw (s, y, w, eq-eqb (suc (N - 1)) N z) refl

-- the last item, which ends the list
pub built_last : {f : ℕ → List ℕ} {x at n : ℕ} {l o ys : List ℕ} → Built f x at l o → x + 1 ≡ n → length o ≡ length l → at ≤ length l → length ys ≡ length o - at
    → ys ≡ f x → take at o ++ (ys ++ drop (length o - at) (drop at o)) ≡ cat n f
built_last {f} {x} {at} {n} {l} {o} {ys} b i k h long e =
    let z : at + (length o - at) - at ≡ length o - at = omega arith in
    rw (sym z) (built_all (built_item (length o - at) ys b e long) i (omega arith))
