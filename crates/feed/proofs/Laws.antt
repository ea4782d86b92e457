-- Laws of numbers as bytes, in the shape in which the loops meet them. Assumes nothing.
use Rattle.std.proofs.Common.{◌≡◌, ℕ, List, ◌++◌}
use Rattle.sha.specs.declared.Sha.{Sha}
use Rattle.sha.specs.State.{Fed, fed_join}
use Rattle.lists.specs.Bytes.{words}
use Rattle.lists.specs.CatLaws.{words_append}

-- the numbers x after the numbers p
pub fed_more : {s t u : Sha} (p x b : List ℕ) → b ≡ words x → Fed s (words p) t → Fed t b u → Fed s (words (p ++ x)) u
fed_more {s} {t} {u} p x b e f g = rw (words_append) (fed_join f (rw e at g))
