-- The replies of the kept executions, for the numbers of a key that was read. D is the depth of the seed tree.
-- Assumes nothing.
use Rattle.std.specs.Prelude.{ℕ, ◌+◌, ◌*◌, ◌<◌, ◌≤◌, ◌≡◌, false, List, [], ◌++◌, get_or}
use Rattle.lists.specs.Written.{Built, Puts}
use Rattle.lists.specs.Index.{cat, pick, part}
use Rattle.numbers.specs.Sum.{sum}
use Rattle.protocol.specs.Key.{Key}
use Rattle.protocol.specs.Prover.{prover_view, opened, place, hidden_of, reply}
use Rattle.execution.specs.Prepared.{last_count}
use Rattle.key.specs.declared.sizes.Numbers.{Numbers}
use Rattle.key.specs.Numbers.{Of}

-- Document 01, part 7: how many bytes a reply has that hides party h, and how many the replies of the kept executions below n have
unfoldable pub reply_length : Numbers → ℕ → ℕ → ℕ
reply_length k D h = 16 * D + 32 + 4 * (k.m + 1 + last_count k.m k.parties h)

unfoldable pub replies_length : Numbers → ℕ → List ℕ → List ℕ → ℕ → ℕ
replies_length k D E hidden n = sum n (λ e. pick (opened E e) 0 (reply_length k D (hidden_of E hidden e)))

-- the hidden party of each kept execution, from 1, is one of N
pub record Hides (k : Numbers) (E hidden : List ℕ) : Type 0 where
  pub at : (x : ℕ) → x < k.executions → opened E x ≡ false → (1 ≤ get_or hidden (place E x) 0) × (get_or hidden (place E x) 0 ≤ k.parties)

-- the keys whose numbers and entries these are
pub record KeyIn (k : Numbers) (entries : List ℕ) (K : Key) : Type 0 where
  pub of : Of k K
  pub entry : (j : ℕ) → j < k.n * (k.m + 1) → K.entry j ≡ get_or entries j 0

-- the reply of execution x that hides party h
abbrev pub reply_at : Key → (seeds secret L : List ℕ) → ℕ → ℕ → List ℕ
reply_at K seeds secret L x h = reply K (prover_view K seeds secret x) (part seeds (16 * x) 16) L h

-- what part 7 has of execution x
abbrev pub part_of : Key → (seeds secret E L hidden : List ℕ) → ℕ → List ℕ
part_of K seeds secret E L hidden x = pick (opened E x) [] (reply_at K seeds secret L x (hidden_of E hidden x))

-- the reply of execution x goes to a place
pub record ReplyPuts (k : Numbers) (x h at to : ℕ) (seeds secret L entries before after : List ℕ) : Type 0 where
  pub is : (K : Key) → KeyIn k entries K → Puts at to (reply_at K seeds secret L x h) before after

-- the replies of the kept executions below x stand in front
pub record RepliesBuilt (k : Numbers) (x at : ℕ) (seeds secret E L hidden entries before after : List ℕ) : Type 0 where
  pub is : (K : Key) → KeyIn k entries K → Built (part_of K seeds secret E L hidden) x at before after

-- all of them
pub record RepliesAre (k : Numbers) (seeds secret E L hidden entries out : List ℕ) : Type 0 where
  pub is : (K : Key) → KeyIn k entries K → out ≡ cat k.executions (part_of K seeds secret E L hidden)

-- message 7
pub record MessageIs (k : Numbers) (seeds secret E κ L hidden entries out : List ℕ) : Type 0 where
  pub is : (K : Key) → KeyIn k entries K → out ≡ κ ++ cat k.executions (part_of K seeds secret E L hidden)
