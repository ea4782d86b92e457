-- FIPS 197, 4.4: `inverse` gives the inverse of each byte but 0, and takes 0 to 0. By a test over all bytes.
-- Assumes nothing.
use Rattle.std.specs.Prelude.{◌≡◌, refl, ℕ, zero, suc, ◌+◌, ◌*◌, ◌/◌, ◌<◌}
use Rattle.std.proofs.Common.{arith, le_of_suc-le-suc}
use Rattle.lists.specs.Test.{same}
use Rattle.gf.specs.Field.{product, remainder, gmul, squares, inverse}

-- 1 where v is a byte and the inverse of a
unfoldable tried : ℕ → ℕ → ℕ
tried a v = gmul a v + 2 * (v / 256)

tests : (k : ℕ) → k < 255 → tried (suc k) (inverse (suc k)) ≡ 1
unfolding tried product remainder gmul squares inverse
tests = same (λ k. tried (suc k) (inverse (suc k))) (λ k. 1) 255 tt

pub inverse_zero : inverse 0 ≡ 0
unfolding product remainder gmul squares inverse
inverse_zero = refl

pub inverse_of_lem : (a : ℕ) → 0 < a → a < 256 → gmul a (inverse a) ≡ 1
unfolding tried
inverse_of_lem zero h b = omega arith
inverse_of_lem (suc k) h b = omega (arith, tests k (le_of_suc-le-suc b))

pub inverse_byte : (a : ℕ) → a < 256 → inverse a < 256
unfolding tried
inverse_byte zero b = omega (arith, inverse_zero)
inverse_byte (suc k) b = omega (arith, tests k (le_of_suc-le-suc b))
