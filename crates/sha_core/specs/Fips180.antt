-- FIPS 180-4, SHA-256, in the standard's names and order. A word is a number below 2 ^ 32, a byte one below 256;
-- messages, blocks and digests are lists of bytes. Assumes nothing.
use Rattle.std.specs.Prelude.{ℕ, zero, suc, ◌+◌, ◌-◌, ◌*◌, ◌/◌, ◌%◌, ◌^◌, Bool, true, false, List, [], ◌∷◌, ◌++◌, length, take, drop, replicate, bit_and, bit_or, bit_xor, nat_lt, slice_index}

-- FIPS 180-4, 2.2.2: the bitwise complement of a word
abbrev pub inv : ℕ → ℕ
inv x = 2 ^ 32 - 1 - x

-- FIPS 180-4, 3.2: SHR^n(x) = x >> n
abbrev pub SHR : ℕ → ℕ → ℕ
SHR n x = x / 2 ^ n

-- FIPS 180-4, 3.2: ROTR^n(x) = (x >> n) ∨ (x << 32 - n)
abbrev pub ROTR : ℕ → ℕ → ℕ
ROTR n x = bit_or (x / 2 ^ n) ((x * 2 ^ (32 - n)) % 2 ^ 32)

-- FIPS 180-4, 4.1.2, (4.2)
abbrev pub Ch : ℕ → ℕ → ℕ → ℕ
Ch x y z = bit_xor (bit_and x y) (bit_and (inv x) z)

-- FIPS 180-4, 4.1.2, (4.3)
abbrev pub Maj : ℕ → ℕ → ℕ → ℕ
Maj x y z = bit_xor (bit_xor (bit_and x y) (bit_and x z)) (bit_and y z)

-- FIPS 180-4, 4.1.2, (4.4)
abbrev pub Σ0 : ℕ → ℕ
Σ0 x = bit_xor (bit_xor (ROTR 2 x) (ROTR 13 x)) (ROTR 22 x)

-- FIPS 180-4, 4.1.2, (4.5)
abbrev pub Σ1 : ℕ → ℕ
Σ1 x = bit_xor (bit_xor (ROTR 6 x) (ROTR 11 x)) (ROTR 25 x)

-- FIPS 180-4, 4.1.2, (4.6)
abbrev pub σ0 : ℕ → ℕ
σ0 x = bit_xor (bit_xor (ROTR 7 x) (ROTR 18 x)) (SHR 3 x)

-- FIPS 180-4, 4.1.2, (4.7)
abbrev pub σ1 : ℕ → ℕ
σ1 x = bit_xor (bit_xor (ROTR 17 x) (ROTR 19 x)) (SHR 10 x)

-- FIPS 180-4, 4.2.2: the constants K_0 .. K_63
unfoldable pub K : List ℕ
K =
    0x428a2f98 ∷ 0x71374491 ∷ 0xb5c0fbcf ∷ 0xe9b5dba5 ∷ 0x3956c25b ∷ 0x59f111f1 ∷ 0x923f82a4 ∷ 0xab1c5ed5 ∷
    0xd807aa98 ∷ 0x12835b01 ∷ 0x243185be ∷ 0x550c7dc3 ∷ 0x72be5d74 ∷ 0x80deb1fe ∷ 0x9bdc06a7 ∷ 0xc19bf174 ∷
    0xe49b69c1 ∷ 0xefbe4786 ∷ 0x0fc19dc6 ∷ 0x240ca1cc ∷ 0x2de92c6f ∷ 0x4a7484aa ∷ 0x5cb0a9dc ∷ 0x76f988da ∷
    0x983e5152 ∷ 0xa831c66d ∷ 0xb00327c8 ∷ 0xbf597fc7 ∷ 0xc6e00bf3 ∷ 0xd5a79147 ∷ 0x06ca6351 ∷ 0x14292967 ∷
    0x27b70a85 ∷ 0x2e1b2138 ∷ 0x4d2c6dfc ∷ 0x53380d13 ∷ 0x650a7354 ∷ 0x766a0abb ∷ 0x81c2c92e ∷ 0x92722c85 ∷
    0xa2bfe8a1 ∷ 0xa81a664b ∷ 0xc24b8b70 ∷ 0xc76c51a3 ∷ 0xd192e819 ∷ 0xd6990624 ∷ 0xf40e3585 ∷ 0x106aa070 ∷
    0x19a4c116 ∷ 0x1e376c08 ∷ 0x2748774c ∷ 0x34b0bcb5 ∷ 0x391c0cb3 ∷ 0x4ed8aa4a ∷ 0x5b9cca4f ∷ 0x682e6ff3 ∷
    0x748f82ee ∷ 0x78a5636f ∷ 0x84c87814 ∷ 0x8cc70208 ∷ 0x90befffa ∷ 0xa4506ceb ∷ 0xbef9a3f7 ∷ 0xc67178f2 ∷ []

-- FIPS 180-4, 3.1: the number x as n bytes, the most significant first, modulo 256 ^ n
unfoldable pub be : ℕ → ℕ → List ℕ
be zero x = []
be (suc n) x = be n (x / 256) ++ (x % 256 ∷ [])

-- FIPS 180-4, 5.1.1: the number of zero bytes after the byte 0x80, for a message of n bytes
abbrev pub zeros : ℕ → ℕ
zeros n = (119 - n % 64) % 64

-- FIPS 180-4, 5.1.1: the padded message. 0x80 is the bit 1 and seven zeros; the length is in bits, in 64 bits
unfoldable pub pad : List ℕ → List ℕ
pad m = m ++ (0x80 ∷ replicate (zeros (length m)) 0) ++ be 8 (length m * 8)

-- FIPS 180-4, 5.2.1: the i-th block of 512 bits of a padded message
abbrev pub block : List ℕ → ℕ → List ℕ
block p i = take 64 (drop (i * 64) p)

-- FIPS 180-4, 5.2.1: the t-th word of a block, its first byte the most significant
unfoldable pub M : List ℕ → ℕ → ℕ
M b t = slice_index b (4 * t) * 2 ^ 24 + slice_index b (4 * t + 1) * 2 ^ 16 + slice_index b (4 * t + 2) * 2 ^ 8 + slice_index b (4 * t + 3)

-- FIPS 180-4, 5.3.3: the initial hash value
unfoldable pub H0 : List ℕ
H0 =
    0x6a09e667 ∷ 0xbb67ae85 ∷ 0x3c6ef372 ∷ 0xa54ff53a ∷ 0x510e527f ∷ 0x9b05688c ∷ 0x1f83d9ab ∷ 0x5be0cd19 ∷ []

-- a if the test holds, else b
abbrev pub pick : Bool → ℕ → ℕ → ℕ
pick true a b = a
pick false a b = b

-- FIPS 180-4, 6.2.2, 1: W_t from the block and W_0 .. W_(t - 1)
unfoldable pub W : List ℕ → List ℕ → ℕ → ℕ
W b w t =
    pick (nat_lt t 16) (M b t)
    ((σ1 (slice_index w (t - 2)) + slice_index w (t - 7) + σ0 (slice_index w (t - 15)) + slice_index w (t - 16)) % 2 ^ 32)

-- FIPS 180-4, 6.2.2, 1: the message schedule's first n words, W_0 .. W_(n - 1)
unfoldable pub schedule : ℕ → List ℕ → List ℕ
schedule zero b = []
schedule (suc t) b = schedule t b ++ (W b (schedule t b) t ∷ [])

-- FIPS 180-4, 6.2.2, 3: T_1 from the working variables v = a, b, .., h
unfoldable pub T1 : List ℕ → ℕ → ℕ → ℕ
T1 v k w = (slice_index v 7 + Σ1 (slice_index v 4) + Ch (slice_index v 4) (slice_index v 5) (slice_index v 6) + k + w) % 2 ^ 32

-- FIPS 180-4, 6.2.2, 3: T_2
unfoldable pub T2 : List ℕ → ℕ
T2 v = (Σ0 (slice_index v 0) + Maj (slice_index v 0) (slice_index v 1) (slice_index v 2)) % 2 ^ 32

-- FIPS 180-4, 6.2.2, 3: one turn, with k = K_t and w = W_t
unfoldable pub round : List ℕ → ℕ → ℕ → List ℕ
round v k w =
    (T1 v k w + T2 v) % 2 ^ 32 ∷ slice_index v 0 ∷ slice_index v 1 ∷ slice_index v 2 ∷
    (slice_index v 3 + T1 v k w) % 2 ^ 32 ∷ slice_index v 4 ∷ slice_index v 5 ∷ slice_index v 6 ∷ []

-- FIPS 180-4, 6.2.2, 3: the working variables after t turns, from the hash value h (6.2.2, 2) and the schedule w
unfoldable pub rounds : ℕ → List ℕ → List ℕ → List ℕ
rounds zero h w = h
rounds (suc t) h w = round (rounds t h w) (slice_index K t) (slice_index w t)

-- FIPS 180-4, 6.2.2, 4: the sums of the hash value h and the working variables v
unfoldable pub added : List ℕ → List ℕ → List ℕ
added v h =
    (slice_index v 0 + slice_index h 0) % 2 ^ 32 ∷ (slice_index v 1 + slice_index h 1) % 2 ^ 32 ∷
    (slice_index v 2 + slice_index h 2) % 2 ^ 32 ∷ (slice_index v 3 + slice_index h 3) % 2 ^ 32 ∷
    (slice_index v 4 + slice_index h 4) % 2 ^ 32 ∷ (slice_index v 5 + slice_index h 5) % 2 ^ 32 ∷
    (slice_index v 6 + slice_index h 6) % 2 ^ 32 ∷ (slice_index v 7 + slice_index h 7) % 2 ^ 32 ∷ []

-- FIPS 180-4, 6.2.2: the hash value after the block b, from the one before
unfoldable pub compress : List ℕ → List ℕ → List ℕ
compress h b = added (rounds 64 h (schedule 64 b)) h

-- FIPS 180-4, 6.2.2: the hash value after n blocks of p
unfoldable pub absorb : ℕ → List ℕ → List ℕ
absorb zero p = H0
absorb (suc n) p = compress (absorb n p) (block p n)

-- FIPS 180-4, 6.2.2: the first n words of a hash value, as bytes
unfoldable pub bytes : ℕ → List ℕ → List ℕ
bytes zero h = []
bytes (suc n) h = bytes n h ++ be 4 (slice_index h n)

-- FIPS 180-4, 6.2: the message digest
unfoldable pub sha256 : List ℕ → List ℕ
sha256 m = bytes 8 (absorb (length (pad m) / 64) (pad m))
