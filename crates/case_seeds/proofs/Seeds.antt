-- Laws of what case_seeds/specs/Seeds.antt defines. Assumes nothing.
use Rattle.std.specs.Prelude.{◌≡◌, refl, [], ◌∷◌}
use Rattle.lists.specs.Tab.{tab}
use Rattle.gf.specs.Field.{product, remainder, gmul, squares, inverse}
use Rattle.sbox.specs.Sbox.{bit, from_bits, affine_bit, affine, sbox_of}
use Rattle.aes.specs.Fips197.{sub_bytes, shift_rows, mix_byte, mix_columns, add_key, word, xor_word, rot_word, sub_word, x_power, rcon, temp, words, key_expansion, rounds, cipher, aes128}
use Rattle.aes_wide.specs.Wide.{counter}
use Rattle.streams.specs.Streams.{block, word64, number}
use Rattle.case_seeds.specs.Seeds.{seed₁, seed₂, seed_l}

-- blocks 2 and 3 of the first, block 2 of the second, block 0 of the third
blocks : (block seed₁ 2 ≡ 195 ∷ 61 ∷ 42 ∷ 138 ∷ 58 ∷ 247 ∷ 82 ∷ 181 ∷ 142 ∷ 15 ∷ 247 ∷ 150 ∷ 22 ∷ 134 ∷ 178 ∷ 3 ∷ [])
    × (block seed₁ 3 ≡ 85 ∷ 219 ∷ 207 ∷ 135 ∷ 72 ∷ 28 ∷ 23 ∷ 162 ∷ 155 ∷ 88 ∷ 50 ∷ 156 ∷ 206 ∷ 144 ∷ 209 ∷ 185 ∷ [])
    × (block seed₂ 2 ≡ 0 ∷ 153 ∷ 34 ∷ 241 ∷ 228 ∷ 27 ∷ 102 ∷ 190 ∷ 148 ∷ 199 ∷ 4 ∷ 18 ∷ 76 ∷ 16 ∷ 220 ∷ 239 ∷ [])
    × (block seed_l 0 ≡ 6 ∷ 110 ∷ 192 ∷ 171 ∷ 182 ∷ 69 ∷ 216 ∷ 245 ∷ 209 ∷ 122 ∷ 254 ∷ 62 ∷ 154 ∷ 169 ∷ 91 ∷ 44 ∷ [])
unfolding tab product remainder gmul squares inverse bit from_bits affine_bit affine sbox_of sub_bytes shift_rows mix_byte mix_columns add_key word xor_word rot_word sub_word x_power rcon temp words key_expansion rounds cipher aes128 counter block seed₁ seed₂ seed_l
blocks = (refl, refl, refl, refl)

-- b, d and s of the first party: numbers 0, 1 and 2 from block 2 on
pub first_b : number 257 seed₁ 2 0 ≡ 7
unfolding number word64
first_b = rw blocks.0

pub first_d : number 257 seed₁ 2 1 ≡ 30
unfolding number word64
first_d = rw blocks.0

pub first_s : number 257 seed₁ 2 2 ≡ 100
unfolding number word64
first_s = rw blocks.1

-- b of the second party
pub second_b : number 257 seed₂ 2 0 ≡ 10
unfolding number word64
second_b = rw blocks.2

-- a coefficient
pub one_γ : number 257 seed_l 0 0 ≡ 1
unfolding number word64
one_γ = rw blocks.3
