-- Lists and tests by index: what the definitions of the protocol are built of. Those that take a count
-- recurse at the last index, as a loop does.
-- Assumes nothing.
use Rattle.std.specs.Prelude.{ℕ, zero, suc, ◌+◌, Bool, true, false, List, [], ◌∷◌, ◌++◌, ltb, eqb, take, drop}

-- a where the test holds, else b
abbrev pub pick : {A : Type 0} → Bool → A → A → A
pick true a b = a
pick false a b = b

-- f 0 ++ f 1 ++ .. ++ f (n - 1)
unfoldable pub cat : {A : Type 0} → ℕ → (ℕ → List A) → List A
cat zero f = []
cat (suc n) f = cat n f ++ f n

-- p holds at each index below n
unfoldable pub every : ℕ → (ℕ → Bool) → Bool
every zero p = true
every (suc n) p = pick (every n p) (p n) false

-- at how many indices below n p holds
unfoldable pub count : ℕ → (ℕ → Bool) → ℕ
count zero p = 0
count (suc n) p = count n p + pick (p n) 1 0

-- the smallest index below n at which p holds, or n
unfoldable pub least : ℕ → (ℕ → Bool) → ℕ
least zero p = 0
least (suc n) p = pick (ltb (least n p) n) (least n p) (pick (p n) n (suc n))

-- x is an entry of l
abbrev pub member : ℕ → List ℕ → Bool
member x [] = false
member x (y ∷ l) = pick (eqb x y) true (member x l)

-- two lists have the same entries
unfoldable pub same : List ℕ → List ℕ → Bool
same [] [] = true
same [] (y ∷ ys) = false
same (x ∷ xs) [] = false
same (x ∷ xs) (y ∷ ys) = pick (eqb x y) (same xs ys) false

-- n entries of x from place i on
abbrev pub part : {A : Type 0} → List A → ℕ → ℕ → List A
part x i n = take n (drop i x)

-- each test of a list holds
unfoldable pub holds : List Bool → Bool
holds [] = true
holds (b ∷ l) = pick b (holds l) false
