-- Sixteen blocks side by side, byte p of block l at place 16 p + l of 256 bytes.
-- Assumes nothing.
use Rattle.std.specs.Prelude.{◌≡◌, List, ℕ, ◌+◌, ◌*◌, ◌-◌, ◌/◌, ◌%◌, ◌^◌, ◌<◌, length, get_or}
use Rattle.lists.specs.Tab.{tab}

-- Block l of the sixteen.
unfoldable pub lane : List ℕ → ℕ → List ℕ
lane s l = tab 16 (λ p. get_or s (16 * p + l) 0)

-- r holds sixteen blocks, of which block l is g l.
pub record Lanes (r : List ℕ) (g : ℕ → List ℕ) : Type 0 where
  pub long : length r ≡ 256
  pub each : (l : ℕ) → l < 16 → lane r l ≡ g l

-- Block l of sixteen that stand one after the other.
unfoldable pub part : List ℕ → ℕ → List ℕ
part x l = tab 16 (λ p. get_or x (16 * l + p) 0)

-- r holds sixteen blocks one after the other, of which block l is g l.
pub record Blocks (r : List ℕ) (g : ℕ → List ℕ) : Type 0 where
  pub each : (l : ℕ) → l < 16 → part r l ≡ g l

-- Byte p is the same in each of the sixteen blocks.
pub record Flat (s : List ℕ) (p : ℕ) : Type 0 where
  pub equal : (l : ℕ) → l < 16 → get_or (lane s l) p 0 ≡ get_or (lane s 0) p 0

-- Document 01, Hash and streams: j as a 16-byte big-endian number.
unfoldable pub counter : ℕ → List ℕ
counter j = tab 16 (λ i. j / 2 ^ (8 * (15 - i)) % 256)
