-- What the code of the outputs computes from lent lists: entries is A row by row and then t; a party's b, d and s stand in work.
-- Assumes nothing.
use Rattle.std.specs.Prelude.{ℕ, ◌+◌, ◌*◌, ◌/◌, ◌%◌, List, eqb, get_or}
use Rattle.lists.specs.Index.{pick}
use Rattle.numbers.specs.Sum.{sum}
use Rattle.numbers.specs.Output.{term_of}
use Rattle.execution.specs.Shown.{place_of}

-- number k of a list
abbrev pub at : List ℕ → ℕ → ℕ
at l k = get_or l k 0

-- row l, column k of A, of which each row has m numbers
abbrev pub cell : ℕ → List ℕ → ℕ → ℕ → ℕ
cell m entries l k = get_or entries (l * m + k) 0

-- t(l), which stands after n rows of A
abbrev pub target : ℕ → ℕ → List ℕ → ℕ → ℕ
target n m entries l = get_or entries (n * m + l) 0

-- Document 01, Shares and messages: the block from which the coefficients of execution e, counted from 0, are drawn
abbrev pub first_block : ℕ → ℕ → ℕ → ℕ
first_block n m e = e * ((n + m + 1) / 2)

-- column k's term of the output of party i, whose numbers stand in work
abbrev pub column_at : ℕ → ℕ → (weights gammas alphas work : List ℕ) → ℕ → ℕ → ℕ
column_at q m weights gammas alphas work i k =
    term_of q (at weights k) (at gammas k) (at alphas k) (at work (place_of m i (2 * m + k))) (at work (place_of m i k)) (at work (place_of m i (m + k)))

-- party i's output from a base and weights
unfoldable pub party_of : ℕ → ℕ → ℕ → (weights gammas alphas work : List ℕ) → ℕ → ℕ
party_of q m base weights gammas alphas work i = (base + sum m (column_at q m weights gammas alphas work i)) % q

-- the same, with the hidden party's given
unfoldable pub shown_of : ℕ → ℕ → (hid given base : ℕ) → (weights gammas alphas work : List ℕ) → ℕ → ℕ
shown_of q m hid given base weights gammas alphas work i = pick (eqb i hid) given (party_of q m base weights gammas alphas work i)
