-- Document 01, Hash and streams: blocks and numbers of a seed.
-- Assumes nothing.
use Rattle.std.specs.Prelude.{ℕ, ◌+◌, ◌*◌, ◌/◌, ◌%◌, ◌<◌, ◌≡◌, refl, List, get_or, length}
use Rattle.std.proofs.Common.{mod-lt}
use Rattle.lists.specs.Tab.{tab-length}
use Rattle.aes.specs.Fips197.{add_key, cipher, aes128}
use Rattle.aes_wide.specs.Wide.{counter}

-- block j of a seed
unfoldable pub block : List ℕ → ℕ → List ℕ
block seed j = aes128 seed (counter j)

-- the 64-bit little-endian number of the eight bytes of x from place i on
unfoldable pub word64 : List ℕ → ℕ → ℕ
word64 x i =
    get_or x i 0 + 256 * (get_or x (i + 1) 0 + 256 * (get_or x (i + 2) 0 + 256 * (get_or x (i + 3) 0 + 256 * (get_or x (i + 4) 0
    + 256 * (get_or x (i + 5) 0 + 256 * (get_or x (i + 6) 0 + 256 * get_or x (i + 7) 0))))))

-- number j from block c on: half of block c + floor(j/2), the first 8 bytes if j is even, else the last 8, reduced modulo q
unfoldable pub number : ℕ → List ℕ → ℕ → ℕ → ℕ
number q seed c j = word64 (block seed (c + j / 2)) (8 * (j % 2)) % q

-- number j of a draw of n numbers from block c on; by document 01's rule it does not depend on n
unfoldable pub draw : ℕ → List ℕ → ℕ → ℕ → ℕ → ℕ
draw q seed c n j = number q seed c j

-- A block has 16 bytes.
pub block-length : (seed : List ℕ) (j : ℕ) → length (block seed j) ≡ 16
unfolding block aes128 cipher add_key
block-length seed j = tab-length 16 _

-- A number is below its modulus.
pub number_lt : {q : ℕ} → 0 < q → (seed : List ℕ) (c j : ℕ) → number q seed c j < q
unfolding number
number_lt h seed c j = mod-lt _ h

pub draw-lt : {q : ℕ} → 0 < q → (seed : List ℕ) (c n j : ℕ) → draw q seed c n j < q
unfolding draw
draw-lt h seed c n j = number_lt h seed c j

-- By document 01's rule a draw's numbers are those of the seed.
pub draw_is : (q : ℕ) (seed : List ℕ) (c n j : ℕ) → draw q seed c n j ≡ number q seed c j
unfolding draw
draw_is q seed c n j = refl
