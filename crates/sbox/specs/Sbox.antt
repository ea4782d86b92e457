-- FIPS 197, 5.1.1: the S-box.
-- Assumes nothing.
use Rattle.std.specs.Prelude.{ℕ, zero, suc, ◌+◌, ◌*◌, ◌/◌, ◌%◌, ◌^◌}
use Rattle.std.specs.Int.Bits.{bit_xor}
use Rattle.gf.specs.Field.{inverse}

-- FIPS 197, 3.2: bit i of a byte, bit 0 being the lowest.
unfoldable pub bit : ℕ → ℕ → ℕ
bit b i = b / 2 ^ i % 2

-- The number whose bit i is f i, for each i below n.
unfoldable pub from_bits : ℕ → (ℕ → ℕ) → ℕ
from_bits zero f = 0
from_bits (suc n) f = f n * 2 ^ n + from_bits n f

-- FIPS 197, 5.1.1: bit i of the affine transformation of b, with the constant c = {63}.
unfoldable pub affine_bit : ℕ → ℕ → ℕ
affine_bit b i =
    bit_xor
    (bit_xor (bit_xor (bit_xor (bit_xor (bit b i) (bit b ((i + 4) % 8))) (bit b ((i + 5) % 8))) (bit b ((i + 6) % 8))) (bit b ((i + 7) % 8)))
    (bit 0x63 i)

unfoldable pub affine : ℕ → ℕ
affine b = from_bits 8 (affine_bit b)

-- FIPS 197, 5.1.1: SBOX(), the inverse (0 for 0), then the affine transformation.
unfoldable pub sbox_of : ℕ → ℕ
sbox_of x = affine (inverse x)
