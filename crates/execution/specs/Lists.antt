-- What the code of an execution leaves in its lent lists, by place.
-- Assumes nothing.
use Rattle.std.specs.Prelude.{ℕ, suc, ◌+◌, ◌*◌, ◌-◌, ◌<◌, ◌≤◌, ◌≡◌, List, eqb, length, get_or}
use Rattle.lists.specs.Index.{pick, part}
use Rattle.lists.specs.Bytes.{num}
use Rattle.numbers.specs.Mod.{sub}
use Rattle.numbers.specs.Sum.{sum}
use Rattle.streams.specs.Streams.{number}
use Rattle.execution.specs.Shown.{place_of}

-- count entries of `after` from a place on are f's, all others are `before`'s
pub record Put (from count : ℕ) (f : ℕ → ℕ) (before after : List ℕ) : Type 0 where
  pub long : length after ≡ length before
  pub at : (j : ℕ) → j < count → get_or after (from + j) 0 ≡ f j
  pub below : (x : ℕ) → x < from → get_or after x 0 ≡ get_or before x 0
  pub above : (x : ℕ) → from + count ≤ x → get_or after x 0 ≡ get_or before x 0

-- how many numbers party i draws, where the others draw `per`
abbrev pub count_of : ℕ → ℕ → ℕ → ℕ → ℕ
count_of m N per i = pick (eqb (suc i) N) m per

-- each of the first n parties that is not hidden has drawn its numbers
pub record Drawn (q m N hid per : ℕ) (leaves work : List ℕ) (n : ℕ) : Type 0 where
  pub at : (i j : ℕ) → i < n → (i ≡ hid → ⊥) → j < count_of m N per i
      → get_or work (place_of m i j) 0 ≡ number q (part leaves (16 * i) 16) 2 j

-- the sum over n parties of number j of each
abbrev pub column_of : ℕ → ℕ → List ℕ → ℕ → ℕ
column_of m n work j = sum n (λ i. get_or work (place_of m i j) 0)

-- d(k) and s(k) of party N from the others' numbers
unfoldable pub last_d : ℕ → ℕ → ℕ → List ℕ → ℕ → ℕ
last_d q m N work k = sub q (column_of m N work k * column_of m N work k) (column_of m (N - 1) work (m + k))

unfoldable pub last_s : ℕ → ℕ → ℕ → List ℕ → ℕ → ℕ → ℕ
last_s q m N work x k = sub q x (column_of m (N - 1) work (2 * m + k))

-- α(k, i): given for the hidden party, s - b for the others
unfoldable pub alpha_at : ℕ → ℕ → ℕ → List ℕ → List ℕ → ℕ → ℕ → ℕ
alpha_at q m hid given work k i =
    pick (eqb i hid) (num given k) (sub q (get_or work (place_of m i (2 * m + k)) 0) (get_or work (place_of m i k) 0))

-- every number of a party that is not hidden is below q
pub record Reduced (q m N hid : ℕ) (work : List ℕ) : Type 0 where
  pub at : (i j : ℕ) → i < N → (i ≡ hid → ⊥) → j < 3 * m → get_or work (place_of m i j) 0 < q
