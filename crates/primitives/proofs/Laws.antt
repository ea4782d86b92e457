-- The answers of the C function for numbers.
-- Assumes nothing.
use Rattle.std.proofs.Common.{◌≡◌, ℕ, ◌<◌, ◌≤◌, true, false}
use Rattle.std.proofs.lemmas.Bool.{le-leb, lt-leb, eq-eqb, ne_eqb}
use Rattle.lists.specs.Index.{member}
use Rattle.numbers.specs.Inverse.{qs}
use Rattle.primitives.specs.Numbers.{answer}

module _ (q seed long c : ℕ) where
  pub answer_q : member q qs ≡ false → 2 ≡ answer q seed long c
  unfolding answer
  answer_q e = rw e

  pub answer_seed : member q qs ≡ true → (seed ≡ 16 → ⊥) → 6 ≡ answer q seed long c
  unfolding answer
  answer_seed e h = rw (e, ne_eqb seed 16 h)

  pub answer_long : member q qs ≡ true → seed ≡ 16 → 4294967295 < long → 11 ≡ answer q seed long c
  unfolding answer
  answer_long e s h = rw (e, eq-eqb seed 16 s, lt-leb long 4294967295 h)

  pub answer_far : member q qs ≡ true → seed ≡ 16 → long ≤ 4294967295 → 4611686018427387903 < c → 11 ≡ answer q seed long c
  unfolding answer
  answer_far e s h k = rw (e, eq-eqb seed 16 s, le-leb long 4294967295 h, lt-leb c 4611686018427387903 k)

  pub answer_fine : member q qs ≡ true → seed ≡ 16 → long ≤ 4294967295 → c ≤ 4611686018427387903 → 0 ≡ answer q seed long c
  unfolding answer
  answer_fine e s h k = rw (e, eq-eqb seed 16 s, le-leb long 4294967295 h, le-leb c 4611686018427387903 k)
