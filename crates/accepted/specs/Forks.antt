-- Document 01's table, last row: what two transcripts are refused for once the key is read, 20 to 23.
-- Assumes nothing.
use Rattle.std.specs.Prelude.{not, List, [], ◌∷◌, ℕ}
use Rattle.lists.specs.Index.{pick, same}
use Rattle.lists.specs.Check.{Check, ◌⇒◌, first}
use Rattle.protocol.specs.Key.{Key}
use Rattle.protocol.specs.Transcript.{parts_of}
use Rattle.protocol.specs.Judge.{run_checks}
use Rattle.protocol.specs.Pair.{same_front, is_accepted}
use Rattle.judge.specs.Lists.{run_lists}

unfoldable pub fork_checks : Key → List ℕ → List ℕ → List Check
fork_checks K x y =
    not (is_accepted (first (run_checks K x))) ⇒ 20
    ∷ not (is_accepted (first (run_checks K y))) ⇒ 21
    ∷ not (same_front K (parts_of x) (parts_of y)) ⇒ 22
    ∷ same (parts_of x).p6 (parts_of y).p6 ⇒ 23
    ∷ []

-- The list for the hash inputs of the second transcript, which was l: it is judged only if the first is accepted.
unfoldable pub second_lists : Key → List ℕ → List ℕ → List ℕ → List ℕ
second_lists K x y l = pick (is_accepted (first (run_checks K x))) (run_lists K y l) l
