-- What the judge leaves in the list for the inputs of the three list hashes, which was x: it stays where the form of a transcript is
-- refused, else the walk stores digests up to the first refusal.
-- Assumes nothing.
use Rattle.std.specs.Prelude.{ℕ, List}
use Rattle.lists.specs.Index.{pick}
use Rattle.lists.specs.Check.{first}
use Rattle.protocol.specs.Key.{Key}
use Rattle.protocol.specs.Transcript.{Parts, parts_of, good_header}
use Rattle.protocol.specs.Judge.{form_checks}
use Rattle.protocol.specs.Pair.{is_accepted}
use Rattle.walk.specs.Walk.{stored}

-- of parts, and of a file
unfoldable pub parts_lists : Key → Parts → List ℕ → List ℕ
parts_lists K P x = pick (is_accepted (first (form_checks K P))) (stored K P K.M x) x

unfoldable pub run_lists : Key → List ℕ → List ℕ → List ℕ
run_lists K run x = pick (good_header K run) (parts_lists K (parts_of run) x) x
