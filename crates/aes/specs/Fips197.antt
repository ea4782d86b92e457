-- FIPS 197: AES-128. A block, a state, a word and the key schedule are lists of bytes.
-- Assumes nothing.
use Rattle.std.specs.Prelude.{Bool, true, false, List, ◌++◌, ℕ, zero, suc, ◌+◌, ◌*◌, ◌-◌, ◌/◌, ◌%◌, eqb, get_or}
use Rattle.std.specs.Int.Bits.{bit_xor}
use Rattle.lists.specs.Tab.{tab}
use Rattle.gf.specs.Field.{gmul}
use Rattle.sbox.specs.Sbox.{sbox_of}

-- FIPS 197, 3.4: the state's byte in row r and column c.
abbrev pub at : List ℕ → ℕ → ℕ → ℕ
at s r c = get_or s (r + 4 * c) 0

-- FIPS 197, 5.1.1: SubBytes.
unfoldable pub sub_bytes : List ℕ → List ℕ
sub_bytes s = tab 16 (λ i. sbox_of (get_or s i 0))

-- FIPS 197, 5.1.2: ShiftRows. Row r = i % 4 goes r places to the left.
unfoldable pub shift_rows : List ℕ → List ℕ
shift_rows s = tab 16 (λ i. at s (i % 4) ((i / 4 + i % 4) % 4))

-- FIPS 197, 5.1.3: a row of the matrix times a column.
unfoldable pub mix_byte : ℕ → ℕ → ℕ → ℕ → ℕ
mix_byte a b c d = bit_xor (bit_xor (bit_xor (gmul 2 a) (gmul 3 b)) c) d

-- FIPS 197, 5.1.3: MixColumns.
unfoldable pub mix_columns : List ℕ → List ℕ
mix_columns s = tab 16 (λ i. mix_byte (at s (i % 4) (i / 4)) (at s ((i + 1) % 4) (i / 4)) (at s ((i + 2) % 4) (i / 4)) (at s ((i + 3) % 4) (i / 4)))

-- FIPS 197, 5.1.4: AddRoundKey, with the words 4 n to 4 n + 3 of the key schedule.
unfoldable pub add_key : List ℕ → ℕ → List ℕ → List ℕ
add_key w n s = tab 16 (λ i. bit_xor (get_or s i 0) (get_or w (16 * n + i) 0))

-- FIPS 197, 5.2: word i of the key schedule.
unfoldable pub word : List ℕ → ℕ → List ℕ
word w i = tab 4 (λ j. get_or w (4 * i + j) 0)

unfoldable pub xor_word : List ℕ → List ℕ → List ℕ
xor_word a b = tab 4 (λ j. bit_xor (get_or a j 0) (get_or b j 0))

-- FIPS 197, 5.2: RotWord.
unfoldable pub rot_word : List ℕ → List ℕ
rot_word a = tab 4 (λ j. get_or a ((j + 1) % 4) 0)

-- FIPS 197, 5.2: SubWord.
unfoldable pub sub_word : List ℕ → List ℕ
sub_word a = tab 4 (λ j. sbox_of (get_or a j 0))

-- FIPS 197, 5.2: x to the power j.
unfoldable pub x_power : ℕ → ℕ
x_power zero = 1
x_power (suc j) = gmul 2 (x_power j)

abbrev pub pick : {A : Type 0} → Bool → A → A → A
pick true a b = a
pick false a b = b

-- FIPS 197, 5.2: Rcon[j], for j from 1 on.
unfoldable pub rcon : ℕ → List ℕ
rcon j = tab 4 (λ k. pick (eqb k 0) (x_power (j - 1)) 0)

-- FIPS 197, 5.2, Algorithm 2: temp, in the turn that makes word i.
unfoldable pub temp : List ℕ → ℕ → List ℕ
temp w i = pick (eqb (i % 4) 0) (xor_word (sub_word (rot_word (word w (i - 1)))) (rcon (i / 4))) (word w (i - 1))

-- FIPS 197, 5.2, Algorithm 2: the key and n words more, word i being word i - 4 xor temp.
unfoldable pub words : ℕ → List ℕ → List ℕ
words zero key = key
words (suc n) key = words n key ++ xor_word (word (words n key) n) (temp (words n key) (n + 4))

-- FIPS 197, 5.2: KeyExpansion.
unfoldable pub key_expansion : List ℕ → List ℕ
key_expansion key = words 40 key

-- FIPS 197, 5.1, Algorithm 1: the rounds 1 to n.
unfoldable pub rounds : List ℕ → ℕ → List ℕ → List ℕ
rounds w zero s = s
rounds w (suc n) s = add_key w (n + 1) (mix_columns (shift_rows (sub_bytes (rounds w n s))))

-- FIPS 197, 5.1, Algorithm 1: Cipher, with 10 rounds.
unfoldable pub cipher : List ℕ → List ℕ → List ℕ
cipher w block = add_key w 10 (shift_rows (sub_bytes (rounds w 9 (add_key w 0 block))))

-- FIPS 197, 5: AES-128.
unfoldable pub aes128 : List ℕ → List ℕ → List ℕ
aes128 key block = cipher (key_expansion key) block
