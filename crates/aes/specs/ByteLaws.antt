-- A block of AES-128 under a key of bytes is a list of bytes.
-- Assumes nothing.
use Rattle.std.specs.Prelude.{ℕ, zero, suc, ◌+◌, ◌*◌, ◌-◌, ◌/◌, ◌%◌, ◌^◌, ◌≤◌, ◌<◌, ◌≡◌, Bool, true, false, List, eqb, get_or}
use Rattle.std.proofs.Math.Nat.{two-pow-succ}
use Rattle.std.proofs.Common.{arith}
use Rattle.std.specs.Int.Bits.{bit_xor}
use Rattle.std.proofs.lemmas.Nat.{xor_lt}
use Rattle.lists.specs.Test.{same}
use Rattle.lists.specs.ByteList.{Bytes, bytes-append, bytes-tab}
use Rattle.gf.specs.Field.{product, remainder, gmul, inverse}
use Rattle.sbox.specs.Sbox.{bit, from_bits, affine_bit, affine, sbox_of}
use Rattle.aes.specs.Fips197.{pick, sub_bytes, shift_rows, add_key, word, xor_word, rot_word, sub_word, x_power, rcon, temp, words, key_expansion, cipher, aes128}

-- ---- the S-box
bits_lt : (n : ℕ) (f : ℕ → ℕ) → ((i : ℕ) → f i < 2) → from_bits n f < 2 ^ n
unfolding from_bits
bits_lt zero f h = omega arith
bits_lt (suc n) f h = top (f n) (h n) (bits_lt n f h)
  where
    top : (b : ℕ) → b < 2 → from_bits n f < 2 ^ n → b * 2 ^ n + from_bits n f < 2 ^ suc n
    top zero l k = omega (arith, two-pow-succ n)
    top (suc zero) l k = omega (arith, two-pow-succ n)
    top (suc (suc b)) l k = omega arith

-- a sum of two bits
two_lt : {a b : ℕ} → a < 2 → b < 2 → bit_xor a b < 2
two_lt {a} {b} h k = xor_lt 1 a b h k

bit-lt : (b i : ℕ) → bit b i < 2
unfolding bit
bit-lt b i = omega arith

affine-lt : (b i : ℕ) → affine_bit b i < 2
unfolding affine_bit
affine-lt b i =
    two_lt
    (two_lt (two_lt (two_lt (two_lt (bit-lt b i) (bit-lt b ((i + 4) % 8))) (bit-lt b ((i + 5) % 8))) (bit-lt b ((i + 6) % 8))) (bit-lt b ((i + 7) % 8)))
    (bit-lt 0x63 i)

sbox_lt : (x : ℕ) → sbox_of x < 256
unfolding sbox_of affine
sbox_lt x = bits_lt 8 (affine_bit (inverse x)) (affine-lt (inverse x))

-- ---- the key schedule
power_small : (j : ℕ) → j < 10 → x_power j / 256 ≡ 0
unfolding product remainder gmul x_power
power_small = same (λ j. x_power j / 256) (λ j. 0) 10 tt

power_lt : (j : ℕ) → j < 10 → x_power j < 256
power_lt j h = omega (arith, power_small j h)

pick-lt : (t : Bool) (a b : ℕ) → a < 256 → b < 256 → pick t a b < 256
pick-lt true a b h k = h
pick-lt false a b h k = k

pick-bytes : (t : Bool) (a b : List ℕ) → Bytes a → Bytes b → Bytes (pick t a b)
pick-bytes true a b h k = h
pick-bytes false a b h k = k

rcon-bytes : (j : ℕ) → j < 11 → Bytes (rcon j)
unfolding rcon
rcon-bytes j h = bytes-tab 4 (λ k. pick-lt (eqb k 0) (x_power (j - 1)) 0 (power_lt (j - 1) (omega arith)) (omega arith))

word_bytes : (w : List ℕ) (i : ℕ) → Bytes w → Bytes (word w i)
unfolding word
word_bytes w i b = bytes-tab 4 (λ j. b.below (4 * i + j))

xor_bytes : (a b : List ℕ) → Bytes a → Bytes b → Bytes (xor_word a b)
unfolding xor_word
xor_bytes a b h k = bytes-tab 4 (λ j. xor_lt 8 (get_or a j 0) (get_or b j 0) (h.below j) (k.below j))

sub-bytes : (a : List ℕ) → Bytes (sub_word a)
unfolding sub_word
sub-bytes a = bytes-tab 4 (λ j. sbox_lt (get_or a j 0))

temp-bytes : (w : List ℕ) (i : ℕ) → i < 44 → Bytes w → Bytes (temp w i)
unfolding temp
temp-bytes w i h b =
    pick-bytes (eqb (i % 4) 0) (xor_word (sub_word (rot_word (word w (i - 1)))) (rcon (i / 4))) (word w (i - 1))
    (xor_bytes (sub_word (rot_word (word w (i - 1)))) (rcon (i / 4)) (sub-bytes (rot_word (word w (i - 1)))) (rcon-bytes (i / 4) (omega arith)))
    (word_bytes w (i - 1) b)

words-bytes : (n : ℕ) (key : List ℕ) → n ≤ 40 → Bytes key → Bytes (words n key)
unfolding words
words-bytes zero key h b = b
words-bytes (suc n) key h b =
    let c : Bytes (words n key) = words-bytes n key (omega arith) b in
    bytes-append (words n key) c
    (xor_bytes (word (words n key) n) (temp (words n key) (n + 4)) (word_bytes (words n key) n c) (temp-bytes (words n key) (n + 4) (omega arith) c))

-- ---- a block: the last round adds a key of bytes to what the S-box gives
round-bytes : (s : List ℕ) → Bytes (shift_rows (sub_bytes s))
unfolding shift_rows sub_bytes
round-bytes s =
    bytes-tab 16 (λ i. (bytes-tab 16 {f = λ j. sbox_of (get_or s j 0)} (λ j. sbox_lt (get_or s j 0))).below (i % 4 + 4 * ((i / 4 + i % 4) % 4)))

pub aes128-bytes : (key block : List ℕ) → Bytes key → Bytes (aes128 key block)
unfolding aes128 cipher key_expansion add_key
aes128-bytes key block b =
    bytes-tab 16 (λ i. xor_lt 8 _ _ ((round-bytes _).below i) ((words-bytes 40 key (omega arith) b).below (16 * 10 + i)))
