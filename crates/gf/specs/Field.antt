-- FIPS 197, 4: the field GF(2^8). A byte b7 .. b0 is the polynomial b7 x^7 + .. + b0 over GF(2), and a sum is `bit_xor` (4.1).
-- Assumes nothing.
use Rattle.std.specs.Prelude.{ℕ, zero, suc, ◌+◌, ◌*◌, ◌/◌, ◌%◌, ◌^◌}
use Rattle.std.specs.Int.Bits.{bit_xor}

-- FIPS 197, 4.2: the product of two polynomials, by the n lowest coefficients of b.
unfoldable pub product : ℕ → ℕ → ℕ → ℕ
product zero a b = 0
product (suc n) a b = bit_xor (b % 2 * a) (2 * product n a (b / 2))

-- FIPS 197, 4.2: the remainder modulo m(x) = x^8 + x^4 + x^3 + x + 1 (283) of a polynomial of degree below n + 8.
unfoldable pub remainder : ℕ → ℕ → ℕ
remainder zero p = p
remainder (suc n) p = remainder n (bit_xor (p / 2 ^ (n + 8) % 2 * (283 * 2 ^ n)) p)

-- FIPS 197, 4.2: the product of two bytes.
unfoldable pub gmul : ℕ → ℕ → ℕ
gmul a b = remainder 7 (product 8 a b)

-- b to the power 2 + 4 + .. + 2 ^ n.
unfoldable pub squares : ℕ → ℕ → ℕ
squares zero b = 1
squares (suc n) b = gmul (gmul b b) (squares n (gmul b b))

-- FIPS 197, 4.4: the inverse of b is b to the power 254.
unfoldable pub inverse : ℕ → ℕ
inverse b = squares 7 b
