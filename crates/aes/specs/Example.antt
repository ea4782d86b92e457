-- The worked example of FIPS 197, appendix B, computed by the definition.
-- Assumes nothing.
use Rattle.std.specs.Prelude.{◌≡◌, refl, List, [], ◌∷◌, ℕ}
use Rattle.lists.specs.Tab.{tab}
use Rattle.gf.specs.Field.{product, remainder, gmul, squares, inverse}
use Rattle.sbox.specs.Sbox.{bit, from_bits, affine_bit, affine, sbox_of}
use Rattle.aes.specs.Fips197.{sub_bytes, shift_rows, mix_byte, mix_columns, add_key, word, xor_word, rot_word, sub_word, x_power, rcon, temp, words, key_expansion, rounds, cipher, aes128}

abbrev pub key_b : List ℕ
key_b = 0x2b ∷ 0x7e ∷ 0x15 ∷ 0x16 ∷ 0x28 ∷ 0xae ∷ 0xd2 ∷ 0xa6 ∷ 0xab ∷ 0xf7 ∷ 0x15 ∷ 0x88 ∷ 0x09 ∷ 0xcf ∷ 0x4f ∷ 0x3c ∷ []

abbrev pub input_b : List ℕ
input_b = 0x32 ∷ 0x43 ∷ 0xf6 ∷ 0xa8 ∷ 0x88 ∷ 0x5a ∷ 0x30 ∷ 0x8d ∷ 0x31 ∷ 0x31 ∷ 0x98 ∷ 0xa2 ∷ 0xe0 ∷ 0x37 ∷ 0x07 ∷ 0x34 ∷ []

abbrev pub output_b : List ℕ
output_b = 0x39 ∷ 0x25 ∷ 0x84 ∷ 0x1d ∷ 0x02 ∷ 0xdc ∷ 0x09 ∷ 0xfb ∷ 0xdc ∷ 0x11 ∷ 0x85 ∷ 0x97 ∷ 0x19 ∷ 0x6a ∷ 0x0b ∷ 0x32 ∷ []

pub appendix_b : aes128 key_b input_b ≡ output_b
unfolding tab product remainder gmul squares inverse bit from_bits affine_bit affine sbox_of sub_bytes shift_rows mix_byte mix_columns add_key word xor_word rot_word sub_word x_power rcon temp words key_expansion rounds cipher aes128
appendix_b = refl
