-- The letter, demand 3: when the pair reader gives a finding, and what each finding says. Executions, parties, columns and rows count
-- from 0, except in a reading, where executions, parties and columns count from 1.
-- Assumes nothing.
use Rattle.std.specs.Prelude.{ℕ, zero, suc, ◌+◌, ◌*◌, ◌%◌, ◌≤◌, ◌<◌, ◌≡◌, ◌⊎◌, true, false, List, [], ◌∷◌, length, get_or}
use Rattle.lists.specs.Check.{accepted, first}
use Rattle.lists.specs.ByteList.{Bytes}
use Rattle.numbers.specs.Mod.{Cong, sub}
use Rattle.numbers.specs.Sum.{sum}
use Rattle.protocol.specs.Key.{Key, A, t, key_of, key_checks}
use Rattle.protocol.specs.Shares.{H, coefficient, s, b, d}
use Rattle.protocol.specs.Prover.{opened}
use Rattle.protocol.specs.Transcript.{Parts, parts_of}
use Rattle.protocol.specs.Judge.{hidden, judge}
use Rattle.protocol.specs.Pair.{Comparison, compare, Reading, refusal, collision, secret, square, errors, execution, comparisons, joined, Lengths, enough, pair}

-- The judge accepts both transcripts for the key, their parts 1 to 5 are equal, and their hidden lists differ.
pub record Forked (key x y : List ℕ) : Type 0 where
  pub first : judge key x ≡ accepted
  pub second : judge key y ≡ accepted
  pub same1 : (parts_of x).p1 ≡ (parts_of y).p1
  pub same2 : (parts_of x).p2 ≡ (parts_of y).p2
  pub same3 : (parts_of x).p3 ≡ (parts_of y).p3
  pub same4 : (parts_of x).p4 ≡ (parts_of y).p4
  pub same5 : (parts_of x).p5 ≡ (parts_of y).p5
  pub differ6 : (parts_of x).p6 ≡ (parts_of y).p6 → ⊥

-- c is the first of a list of comparisons whose two inputs differ.
abbrev pub First : Comparison → List Comparison → Type 0
First c [] = ⊥
First c (d ∷ l) = ((c ≡ d) × (d.one ≡ d.two → ⊥)) ⊎ ((d.one ≡ d.two) × First c l)

-- The two inputs of each comparison are equal.
abbrev pub Equal : List Comparison → Type 0
Equal [] = Unit {0}
Equal (c ∷ l) = (c.one ≡ c.two) × Equal l

-- s(k) for k below m: A·s = t modulo q, and each s(k) is 0 or 1.
pub record Solution (K : Key) (s : ℕ → ℕ) : Type 0 where
  pub target : (l : ℕ) → l < K.n → sum K.m (λ k. A K l k * s k) % K.q ≡ t K l
  pub binary : (k : ℕ) → k < K.m → s k ≤ 1

module _ (K : Key) (P R : Parts) where
  -- e is the smallest execution where the hidden parties differ; it is kept.
  pub record Works (e : ℕ) : Type 0 where
    pub within : e < K.M
    pub kept : opened P.p2 e ≡ false
    pub differ : hidden K P e ≡ hidden K R e → ⊥
    pub smallest : (j : ℕ) → j < e → opened P.p2 j ≡ false → hidden K P j ≡ hidden K R j

  -- Two different byte strings with one SHA-256 value: the two inputs of the first comparison that differ.
  pub record Collision (kind e party : ℕ) (one two : List ℕ) : Type 0 where
    pub works : Works e
    pub first : First (compare kind party one two) (comparisons K P R e)
    pub bytes_one : Bytes one
    pub bytes_two : Bytes two
    pub differ : one ≡ two → ⊥
    pub one_hash : H one ≡ H two
    pub one-length : length one ≡ length two
    pub short : length one ≤ 16400

  -- A binary s with A·s = t: the joined s of an execution.
  pub record Secret (e : ℕ) (bits : List ℕ) : Type 0 where
    pub works : Works e
    pub no_collision : Equal (comparisons K P R e)
    pub long : length bits ≡ K.m
    pub read : (k : ℕ) → k < K.m → get_or bits k 0 ≡ joined K P R e s k
    pub solution : Solution K (λ k. get_or bits k 0)

  -- The joined b(k) and d(k) of execution e, with d(k) not b(k)² modulo q; the smallest such k.
  pub record Square (e k bk dk : ℕ) : Type 0 where
    pub works : Works e
    pub no_collision : Equal (comparisons K P R e)
    pub no_secret : Solution K (joined K P R e s) → ⊥
    pub column : k < K.m
    pub b_read : bk ≡ joined K P R e b k
    pub d_read : dk ≡ joined K P R e d k
    pub b_fits : bk < K.q
    pub d_fits : dk < K.q
    pub wrong : Cong K.q dk (bk * bk) → ⊥
    pub smallest : (j : ℕ) → j < k → Cong K.q (joined K P R e d j) (joined K P R e b j * joined K P R e b j)

  -- The errors in A·s = t and in s² = s of the joined s of execution e: u = t - A·s, then v(k) = s(k)² - s(k). They are not all zero, and
  -- their products with the coefficients that part 4 gives for e add up to 0 modulo q.
  pub record Errors (e : ℕ) (list : List ℕ) : Type 0 where
    pub works : Works e
    pub no_collision : Equal (comparisons K P R e)
    pub no_secret : Solution K (joined K P R e s) → ⊥
    pub squares : (k : ℕ) → k < K.m → Cong K.q (joined K P R e d k) (joined K P R e b k * joined K P R e b k)
    pub long : length list ≡ K.n + K.m
    pub fits : (j : ℕ) → j < K.n + K.m → get_or list j 0 < K.q
    pub u_read : (l : ℕ) → l < K.n → get_or list l 0 ≡ sub K.q (t K l) (sum K.m (λ k. A K l k * joined K P R e s k))
    pub v_read : (k : ℕ) → k < K.m → get_or list (K.n + k) 0 ≡ sub K.q (joined K P R e s k * joined K P R e s k) (joined K P R e s k)
    pub not_zero : (j : ℕ) × (j < K.n + K.m) × (get_or list j 0 ≡ 0 → ⊥)
    pub combination :
        (sum K.n (λ l. coefficient K P.p4 e l * get_or list l 0)
        + sum K.m (λ k. coefficient K P.p4 e (K.n + k) * get_or list (K.n + k) 0)
        ) % K.q ≡ 0

  -- What a reading says of the two transcripts.
  abbrev pub Truth : Reading → Type 0
  Truth (refusal n) = ⊥
  Truth (collision kind zero party one two) = ⊥
  Truth (collision kind (suc e) party one two) = Collision kind e party one two
  Truth (secret bits) = Secret (execution K P R) bits
  Truth (square zero k bk dk) = ⊥
  Truth (square (suc e) zero bk dk) = ⊥
  Truth (square (suc e) (suc k) bk dk) = Square e k bk dk
  Truth (errors zero list) = ⊥
  Truth (errors (suc e) list) = Errors e list

-- A reading that is a finding, and no refusal.
abbrev pub Finding : Reading → Type 0
Finding (refusal n) = ⊥
Finding (collision kind e party one two) = Unit {0}
Finding (secret bits) = Unit {0}
Finding (square e k bk dk) = Unit {0}
Finding (errors e list) = Unit {0}

-- The lent lists are as long as document 01 asks for the key's numbers, if the key is read; one that gets 1 to 5 asks for no length.
abbrev pub LongEnough : List ℕ → Lengths → Type 0
LongEnough key l = first (key_checks (key_of key) key) ≡ accepted → enough (key_of key) l ≡ true

-- Demand 3, for lent lists of the lengths l: a finding only where the transcripts fork, always there if the lists are long enough, and
-- true of transcripts that are bytes.
pub record Demand3 (key : List ℕ) (l : Lengths) (x y : List ℕ) : Type 0 where
  pub only : Finding (pair key l x y) → Forked key x y
  pub always : LongEnough key l → Forked key x y → Finding (pair key l x y)
  pub sound : Bytes x → Bytes y → Finding (pair key l x y) → Truth (key_of key) (parts_of x) (parts_of y) (pair key l x y)
