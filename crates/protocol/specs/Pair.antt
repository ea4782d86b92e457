-- Document 01, Pair reader, level 3: the comparisons, the joined values, the four findings with their numbers and values, 11 and 20 to 23.
-- Assumes nothing.
use Rattle.std.specs.Prelude.{ℕ, suc, ◌+◌, ◌*◌, ◌-◌, ◌%◌, Bool, true, false, not, List, [], ◌∷◌, ◌++◌, ltb, leb, eqb, length}
use Rattle.lists.specs.Tab.{tab}
use Rattle.lists.specs.Index.{pick, cat, least, same, holds}
use Rattle.lists.specs.Check.{Check, ◌⇒◌, Verdict, accepted, refused, first}
use Rattle.numbers.specs.Sum.{sum}
use Rattle.numbers.specs.Output.{u_of, v_of}
use Rattle.protocol.specs.Key.{Key, A, t, entries, key_of, key_checks}
use Rattle.protocol.specs.Shares.{View, sq, is_hidden, s, b, d, Γin, hin, Ωin, Πin, Ψin}
use Rattle.protocol.specs.Prover.{opened, hΓin, hπin, hψin, solves, binary}
use Rattle.protocol.specs.Transcript.{Parts, parts_of}
use Rattle.protocol.specs.Judge.{hidden, κ, view, run_checks}

-- Two hash inputs to compare: the kind, the party (N for Ω, 0 where none), the input of the first transcript and of the second.
pub record Comparison : Type 0 where
  pub kind : ℕ
  pub party : ℕ
  pub one : List ℕ
  pub two : List ℕ

-- What the pair reader answers. Executions, parties and columns count from 1 here; the party is 0 where there is none.
pub data Reading : Type 0 where
  refusal : ℕ → Reading
  collision : ℕ → ℕ → ℕ → List ℕ → List ℕ → Reading
  secret : List ℕ → Reading
  square : ℕ → ℕ → ℕ → ℕ → Reading
  errors : ℕ → List ℕ → Reading

-- the first comparison whose inputs differ, in execution e, or else what follows
unfoldable pub first_different : ℕ → List Comparison → Reading → Reading
first_different e [] r = r
first_different e (c ∷ l) r =
    pick (same c.one c.two) (first_different e l r) (collision c.kind e c.party c.one c.two)

abbrev pub compare : ℕ → ℕ → List ℕ → List ℕ → Comparison
compare kind party one two = record { kind = kind; party = party; one = one; two = two }

module _ (K : Key) (P R : Parts) where
  -- the smallest execution where the hidden parties differ
  unfoldable pub execution : ℕ
  execution = least K.M (λ e. pick (opened P.p2 e) false (not (eqb (hidden K P e) (hidden K R e))))

  module _ (e : ℕ) where
    abbrev pub v : View
    v = view K P e

    abbrev pub w : View
    w = view K R e

    -- party i is open in both
    unfoldable pub open_in_both : ℕ → Bool
    open_in_both i = holds (not (is_hidden K v i) ∷ not (is_hidden K w i) ∷ [])

    -- 1 hΓ, 2 h(e), 3 Γ(i) for i open in both, rising, 4 Ω if N is open in both, 5 hπ, 6 Π, 7 hψ, 8 Ψ
    unfoldable pub comparisons : List Comparison
    comparisons =
        compare 1 0 (hΓin K (view K P)) (hΓin K (view K R))
        ∷ compare 2 0 (hin K v) (hin K w)
        ∷ cat K.N (λ i. pick (open_in_both i) (compare 3 (suc i) (Γin K v i) (Γin K w i) ∷ []) [])
        ++ pick (open_in_both (K.N - 1)) (compare 4 K.N (Ωin K v) (Ωin K w) ∷ []) []
        ++ compare 5 0 (hπin K (view K P) P.p2 (κ K P)) (hπin K (view K R) R.p2 (κ K R))
        ∷ compare 6 0 (Πin K v (κ K P)) (Πin K w (κ K R))
        ∷ compare 7 0 (hψin K (view K P) P.p2 (κ K P) P.p4) (hψin K (view K R) R.p2 (κ K R) R.p4)
        ∷ compare 8 0 (Ψin K v (κ K P) P.p4) (Ψin K w (κ K R) R.p4)
        ∷ []

    -- s, b, d are the sums over all N parties, each party's values from the first of the two transcripts in which it is open.
    unfoldable pub source : ℕ → View
    source i = pick (is_hidden K v i) w v

    unfoldable pub joined : (Key → View → ℕ → ℕ → ℕ) → ℕ → ℕ
    joined f k = sum K.N (λ i. f K (source i) k i) % K.q

    -- the joined s(1) .. s(m)
    abbrev pub joined_bits : List ℕ
    joined_bits = tab K.m (joined s)

    -- u = t - A·s and v(k) = s(k)² - s(k)
    unfoldable pub uv : List ℕ
    uv =
        tab K.n (λ l. u_of K.q K.m (A K) (t K) (joined s) l) ++ tab K.m (λ k. v_of K.q (joined s) k)

    -- the smallest k at which d(k) isn't b(k)², or m
    unfoldable pub wrong_square : ℕ
    wrong_square = least K.m (λ k. not (eqb (joined d k) (sq (joined b k) % K.q)))

    unfoldable pub values : Reading
    values =
        pick (holds (solves K (joined s) ∷ binary K (joined s) ∷ []))
        (secret joined_bits)
        (pick (ltb wrong_square K.m)
        (square (suc e) (suc wrong_square) (joined b wrong_square) (joined d wrong_square))
        (errors (suc e) uv))

  -- parts 1 to 5 are equal
  unfoldable pub same_front : Bool
  same_front =
      holds
      (same P.p1 R.p1 ∷ same P.p2 R.p2 ∷ same P.p3 R.p3 ∷ same P.p4 R.p4 ∷ same P.p5 R.p5 ∷ [])

  unfoldable pub finding : Reading
  finding = first_different (suc execution) (comparisons execution) (values execution)

unfoldable pub is_accepted : Verdict → Bool
is_accepted accepted = true
is_accepted (refused n) = false

-- The lengths of the lent lists: work, the list for A and t, both hash buffers, the secret output, the u and v list.
pub record Lengths : Type 0 where
  pub work : ℕ
  pub entry : ℕ
  pub hash1 : ℕ
  pub hash2 : ℕ
  pub bits : ℕ
  pub errs : ℕ

unfoldable pub enough : Key → Lengths → Bool
enough K l =
    holds
    (leb (4 * K.m * K.N) l.work ∷ leb (entries K) l.entry ∷ leb 16400 l.hash1 ∷ leb 16400 l.hash2
    ∷ leb K.m l.bits ∷ leb (K.n + K.m) l.errs ∷ [])

-- Document 01's table: key, 11, first not accepted 20, second not 21, parts 1 to 5 differ 22, hidden lists equal 23
unfoldable pub pair_checks : List ℕ → Lengths → List ℕ → List ℕ → List Check
pair_checks key l x y =
    let K = key_of key in
    key_checks K key
    ++ not (enough K l) ⇒ 11
    ∷ not (is_accepted (first (run_checks K x))) ⇒ 20
    ∷ not (is_accepted (first (run_checks K y))) ⇒ 21
    ∷ not (same_front K (parts_of x) (parts_of y)) ⇒ 22
    ∷ same (parts_of x).p6 (parts_of y).p6 ⇒ 23
    ∷ []

unfoldable pub read_of : Verdict → Reading → Reading
read_of accepted r = r
read_of (refused n) r = refusal n

unfoldable pub pair : List ℕ → Lengths → List ℕ → List ℕ → Reading
pair key l x y = read_of (first (pair_checks key l x y)) (finding (key_of key) (parts_of x) (parts_of y))

-- An answer in numbers: a refusal's number alone, or a finding's number and its values.
pub data Said : Type 0 where
  refused_as : ℕ → Said
  found_as : ℕ → List ℕ → Said

-- The values of a finding in one order, with 0 where it has none.
abbrev pub value_list : (kind e i size k b d : ℕ) → List ℕ
value_list kind e i size k b d = kind ∷ e ∷ i ∷ size ∷ k ∷ b ∷ d ∷ []

-- Finding 1 with kind, e, i and the length; finding 2; finding 3 with e, k, b(k) and d(k); finding 4 with e.
abbrev pub says : Reading → Said
says (refusal n) = refused_as n
says (collision kind e party one two) = found_as 1 (value_list kind e party (length one) 0 0 0)
says (secret bits) = found_as 2 (value_list 0 0 0 0 0 0 0)
says (square e k bk dk) = found_as 3 (value_list 0 e 0 0 k bk dk)
says (errors e list) = found_as 4 (value_list 0 e 0 0 0 0 0)
