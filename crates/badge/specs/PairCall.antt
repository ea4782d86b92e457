-- The pair reader for C: a list for the answer of under eight numbers is 11, right after the key.
-- Assumes nothing.
use Rattle.std.specs.Prelude.{ℕ, true, List, [], ◌∷◌, ◌++◌, ltb}
use Rattle.lists.specs.Index.{pick}
use Rattle.lists.specs.Check.{◌⇒◌, first}
use Rattle.protocol.specs.Key.{key_of, key_checks}
use Rattle.protocol.specs.Pair.{Reading, refusal, Lengths, pair}
use Rattle.refusals.specs.Number.{number_of}

-- n is the length of the list for the answer
unfoldable pub pair_call : ℕ → List ℕ → Lengths → List ℕ → List ℕ → Reading
pair_call n key l x y = pick (ltb n 8) (refusal (number_of (first (key_checks (key_of key) key ++ true ⇒ 11 ∷ [])))) (pair key l x y)
