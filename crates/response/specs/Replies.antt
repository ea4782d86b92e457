-- A reply from the lists that hold an execution, of which nobody is hidden. D is the depth of the seed tree.
-- Assumes nothing.
use Rattle.std.specs.Prelude.{ℕ, suc, ◌+◌, ◌*◌, ◌-◌, ◌<◌, ◌≡◌, List, [], ◌++◌, eqb, get_or}
use Rattle.lists.specs.Index.{pick, part}
use Rattle.lists.specs.Bytes.{le4, words, nums}
use Rattle.numbers.specs.Mod.{sub}
use Rattle.tree.specs.Tree.{opening}
use Rattle.protocol.specs.Key.{Key, depth}
use Rattle.protocol.specs.Shares.{dealt}
use Rattle.protocol.specs.Prover.{reply}
use Rattle.execution.specs.Shown.{Sized, place_of}
use Rattle.views.specs.Seen.{gamma_at}

-- α(k, i)
unfoldable pub alpha_share : ℕ → ℕ → List ℕ → ℕ → ℕ → ℕ
alpha_share q m work i k = sub q (get_or work (place_of m i (2 * m + k)) 0) (get_or work (place_of m i k) 0)

-- party N's d and s, unless it is hidden
unfoldable pub last_numbers : ℕ → ℕ → List ℕ → ℕ → List ℕ
last_numbers m N work h = pick (eqb (suc h) N) [] (words (part work (3 * m * (N - 1) + m) (2 * m)))

-- the numbers of a reply
unfoldable pub numbers_of : ℕ → ℕ → ℕ → List ℕ → ℕ → ℕ → List ℕ
numbers_of q m N work h o = nums m (alpha_share q m work h) ++ le4 o ++ last_numbers m N work h

-- the reply of execution e that hides party h, whose output is o
unfoldable pub reply_of : (q m N D e : ℕ) → (master leaves work : List ℕ) → ℕ → ℕ → List ℕ
reply_of q m N D e master leaves work h o =
    opening D master h ++ gamma_at m N N e [] leaves work h ++ numbers_of q m N work h o

-- r is the reply of the execution that is dealt from a master seed and the secret, for any key that has these entries
pub record DealtReply (q n m N D e h : ℕ) (master secret L entries r : List ℕ) : Type 0 where
  pub is : (K : Key) → Sized q m N K → K.n ≡ n → ((j : ℕ) → j < n * (m + 1) → K.entry j ≡ get_or entries j 0) → depth K ≡ D
      → r ≡ reply K (dealt K e master (λ k. get_or secret k 0)) master L h
