-- A block of a seed of bytes is a list of bytes. Assumes nothing.
use Rattle.std.specs.Prelude.{ℕ, List}
use Rattle.lists.specs.ByteList.{Bytes}
use Rattle.aes.specs.ByteLaws.{aes128-bytes}
use Rattle.aes_wide.specs.Wide.{counter}
use Rattle.streams.specs.Streams.{block}

pub block-bytes : (seed : List ℕ) (j : ℕ) → Bytes seed → Bytes (block seed j)
unfolding block
block-bytes seed j b = aes128-bytes seed (counter j) b
