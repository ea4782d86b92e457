-- Document 01, Seed tree. A tree of depth d has 2 ^ d leaves, counted from 0, left to right.
-- Assumes nothing.
use Rattle.std.specs.Prelude.{ℕ, zero, suc, ◌-◌, ◌*◌, ◌^◌, List, [], ◌++◌, ltb, take, drop, replicate}
use Rattle.lists.specs.Index.{pick}
use Rattle.streams.specs.Streams.{block}

-- A node's left child is its block 0, its right child its block 1.
abbrev pub left : List ℕ → List ℕ
left seed = block seed 0

abbrev pub right : List ℕ → List ℕ
right seed = block seed 1

-- leaf i of the tree of depth d below a node
unfoldable pub leaf : ℕ → List ℕ → ℕ → List ℕ
leaf zero seed i = seed
leaf (suc d) seed i = pick (ltb i (2 ^ d)) (leaf d (left seed) i) (leaf d (right seed) (i - 2 ^ d))

-- The seeds that open all leaves but leaf h, walked from the root, left child first: the child without h beneath it gives its seed,
-- the other is walked on. The hidden leaf gives nothing.
unfoldable pub opening : ℕ → List ℕ → ℕ → List ℕ
opening zero seed h = []
opening (suc d) seed h =
    pick (ltb h (2 ^ d))
    (opening d (left seed) h ++ right seed)
    (left seed ++ opening d (right seed) (h - 2 ^ d))

-- The other end: leaf i from an opening x that leaves out leaf h, whose own place holds 16 zero bytes.
unfoldable pub reopened : ℕ → ℕ → List ℕ → ℕ → List ℕ
reopened zero h x i = replicate 16 0
reopened (suc d) h x i =
    pick (ltb h (2 ^ d))
    (pick (ltb i (2 ^ d)) (reopened d h (take (16 * d) x) i) (leaf d (drop (16 * d) x) (i - 2 ^ d)))
    (pick (ltb i (2 ^ d)) (leaf d (take 16 x) i) (reopened d (h - 2 ^ d) (drop 16 x) (i - 2 ^ d)))
