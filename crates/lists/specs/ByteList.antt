-- Lists of bytes, and what keeps them so.
-- Assumes nothing.
use Rattle.std.specs.Prelude.{ℕ, zero, suc, ◌+◌, ◌<◌, Bool, true, false, List, [], ◌∷◌, ◌++◌, get_or, take, drop, replicate}
use Rattle.std.proofs.Common.{sym, subst, arith, get_or-drop}
use Rattle.lists.specs.Tab.{tab}
use Rattle.lists.specs.Index.{pick, cat, part}
use Rattle.lists.specs.Bytes.{le4, nums}

-- Every entry is below 256; past the end an entry counts as 0.
pub record Bytes (x : List ℕ) : Type 0 where
  pub below : (i : ℕ) → get_or x i 0 < 256

pub bytes_nil : Bytes []
bytes_nil = record { below = λ i. omega arith }

pub bytes_cons : {a : ℕ} {x : List ℕ} → a < 256 → Bytes x → Bytes (a ∷ x)
bytes_cons {a} {x} h b = record { below = at }
  where
    at : (i : ℕ) → get_or (a ∷ x) i 0 < 256
    at zero = h
    at (suc i) = b.below i

tail : {a : ℕ} {x : List ℕ} → Bytes (a ∷ x) → Bytes x
tail b = record { below = λ i. b.below (suc i) }

pub bytes-append : (x : List ℕ) {y : List ℕ} → Bytes x → Bytes y → Bytes (x ++ y)
bytes-append [] b c = c
bytes-append (a ∷ x) b c = bytes_cons (b.below 0) (bytes-append x (tail b) c)

pub bytes_drop : (n : ℕ) (x : List ℕ) → Bytes x → Bytes (drop n x)
bytes_drop n x b = record { below = λ i. subst (λ (z : ℕ). z < 256) (sym (get_or-drop n x i 0)) (b.below (n + i)) }

pub bytes_take : (n : ℕ) (x : List ℕ) → Bytes x → Bytes (take n x)
bytes_take zero x b = bytes_nil
bytes_take (suc n) [] b = bytes_nil
bytes_take (suc n) (a ∷ x) b = bytes_cons (b.below 0) (bytes_take n x (tail b))

pub bytes-part : (x : List ℕ) (i n : ℕ) → Bytes x → Bytes (part x i n)
bytes-part x i n b = bytes_take n (drop i x) (bytes_drop i x b)

pub bytes-pick : (t : Bool) {x y : List ℕ} → Bytes x → Bytes y → Bytes (pick t x y)
bytes-pick true b c = b
bytes-pick false b c = c

pub bytes-cat : (n : ℕ) {f : ℕ → List ℕ} → ((i : ℕ) → i < n → Bytes (f i)) → Bytes (cat n f)
unfolding cat
bytes-cat zero h = bytes_nil
bytes-cat (suc n) {f} h = bytes-append (cat n f) (bytes-cat n (λ i l. h i (omega arith))) (h n (omega arith))

pub bytes-tab : (n : ℕ) {f : ℕ → ℕ} → ((i : ℕ) → f i < 256) → Bytes (tab n f)
unfolding tab
bytes-tab zero h = bytes_nil
bytes-tab (suc n) h = bytes_cons (h 0) (bytes-tab n (λ i. h (suc i)))

pub bytes-zeros : (n : ℕ) → Bytes (replicate n 0)
bytes-zeros zero = bytes_nil
bytes-zeros (suc n) = bytes_cons (omega arith) (bytes-zeros n)

-- The four bytes of a number, whatever its size, and of each number of a list.
pub bytes-le4 : (x : ℕ) → Bytes (le4 x)
unfolding le4
bytes-le4 x =
    bytes_cons (omega arith) (bytes_cons (omega arith) (bytes_cons (omega arith) (bytes_cons (omega arith) bytes_nil)))

pub bytes-nums : (n : ℕ) (f : ℕ → ℕ) → Bytes (nums n f)
unfolding nums
bytes-nums n f = bytes-cat n (λ k h. bytes-le4 (f k))
