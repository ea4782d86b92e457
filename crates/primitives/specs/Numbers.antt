-- What the C function for numbers answers and writes.
-- Assumes nothing.
use Rattle.std.specs.Prelude.{ℕ, zero, suc, List, leb, eqb, length}
use Rattle.lists.specs.Tab.{tab}
use Rattle.lists.specs.Index.{pick, member}
use Rattle.numbers.specs.Inverse.{qs}
use Rattle.streams.specs.Streams.{number}

unfoldable pub answer : ℕ → ℕ → ℕ → ℕ → ℕ
answer q seed long c =
    pick (member q qs) (pick (eqb seed 16) (pick (leb long 4294967295) (pick (leb c 4611686018427387903) 0 11) 11) 6) 2

abbrev pub written : ℕ → List ℕ → ℕ → ℕ → List ℕ → List ℕ
written zero seed c q out = tab (length out) (number q seed c)
written (suc r) seed c q out = out
