-- Document 01, Shares and messages, level 1: the prover's four messages, and what its calls are refused for.
-- Assumes nothing.
use Rattle.std.specs.Prelude.{ℕ, suc, ◌+◌, ◌*◌, ◌-◌, ◌%◌, Bool, not, List, [], ◌∷◌, ◌++◌, ltb, leb, eqb, length, get_or, take, drop}
use Rattle.lists.specs.Index.{pick, cat, every, count, member, part, holds}
use Rattle.lists.specs.Bytes.{le4, nums}
use Rattle.lists.specs.Check.{Check, ◌⇒◌, Verdict, accepted, refused, first}
use Rattle.numbers.specs.Sum.{sum}
use Rattle.tree.specs.Tree.{opening}
use Rattle.protocol.specs.Key.{Key, A, t, entries, depth, kept_count, key_of, key_checks}
use Rattle.protocol.specs.Shares.{H, input, View, Γ, hin, Ωin, α, Πin, o, Ψin, dealt}

-- E lists the executions that are opened by master seed; the rest are kept, in rising order everywhere.
unfoldable pub opened : List ℕ → ℕ → Bool
opened E e = member (suc e) E

-- how many opened, and how many kept executions come before e
unfoldable pub rank : List ℕ → ℕ → ℕ
rank E e = count e (opened E)

unfoldable pub place : List ℕ → ℕ → ℕ
place E e = count e (λ j. not (opened E j))

-- f of each kept execution, joined
unfoldable pub kept : Key → List ℕ → (ℕ → List ℕ) → List ℕ
kept K E f = cat K.M (λ e. pick (opened E e) [] (f e))

-- hΓ = H(h(1) .. h(M)), hπ = H(Π of the kept), hψ = H(Ψ of the kept), as hash inputs of the executions seen
module _ (K : Key) (view : ℕ → View) where
  unfoldable pub hΓin : List ℕ
  hΓin = input 1 0 0 (cat K.M (λ e. H (hin K (view e))))

  unfoldable pub hπin : List ℕ → List ℕ → List ℕ
  hπin E κ = input 5 0 0 (kept K E (λ e. H (Πin K (view e) κ)))

  unfoldable pub hψin : List ℕ → List ℕ → List ℕ → List ℕ
  hψin E κ L = input 7 0 0 (kept K E (λ e. H (Ψin K (view e) κ L)))

-- The hidden party of a kept execution, from 0, by the hidden list.
unfoldable pub hidden_of : List ℕ → List ℕ → ℕ → ℕ
hidden_of E hidden e = get_or hidden (place E e) 0 - 1

-- What part 7 holds of a kept execution: its opened seeds, Γ, m numbers α and one o of the hidden party h; where that party isn't N,
-- also d(1..m) and s(1..m) of party N.
unfoldable pub reply : Key → View → List ℕ → List ℕ → ℕ → List ℕ
reply K v master L h =
    opening (depth K) master h ++ Γ K v h ++ nums K.m (λ k. α K v k h) ++ le4 (o K v L h)
    ++ pick (eqb (suc h) K.N) [] (nums K.m v.d_n ++ nums K.m v.s_n)

-- The messages. `seeds` are the M master seeds, 16 bytes each.
module _ (K : Key) (seeds secret : List ℕ) where
  abbrev pub master : ℕ → List ℕ
  master e = part seeds (16 * e) 16

  unfoldable pub prover_view : ℕ → View
  prover_view e = dealt K e (master e) (λ k. get_or secret k 0)

  unfoldable pub message3 : List ℕ → List ℕ → List ℕ
  message3 E κ =
      cat K.M (λ e. pick (opened E e) (master e) []) ++ kept K E (λ e. H (Ωin K (prover_view e)))
      ++ H (hπin K prover_view E κ)

  unfoldable pub message5 : List ℕ → List ℕ → List ℕ → List ℕ
  message5 E κ L = H (hψin K prover_view E κ L)

  unfoldable pub message7 : List ℕ → List ℕ → List ℕ → List ℕ → List ℕ
  message7 E κ L hidden = κ ++ kept K E (λ e. reply K (prover_view e) (master e) L (hidden_of E hidden e))

-- Message 1 knows no secret: h(e) does not depend on it.
unfoldable pub message1 : Key → List ℕ → List ℕ
message1 K seeds = H (hΓin K (prover_view K seeds []))

-- E is τ strictly rising values in 1..M.
unfoldable pub good_e : Key → List ℕ → Bool
good_e K E =
    holds
    (eqb (length E) K.τ
    ∷ every (length E) (λ j. ltb (get_or (0 ∷ E) j 0) (get_or E j 0))
    ∷ every (length E) (λ j. leb (get_or E j 0) K.M)
    ∷ [])

-- A hidden list is M - τ values in 1..N.
unfoldable pub good_hidden : Key → List ℕ → Bool
good_hidden K hidden =
    holds
    (eqb (length hidden) (kept_count K)
    ∷ every (length hidden) (λ j. leb 1 (get_or hidden j 0))
    ∷ every (length hidden) (λ j. leb (get_or hidden j 0) K.N)
    ∷ [])

-- A·x = t modulo q
unfoldable pub solves : Key → (ℕ → ℕ) → Bool
solves K x = every K.n (λ l. eqb (sum K.m (λ k. A K l k * x k) % K.q) (t K l))

-- every entry of x is 0 or 1
unfoldable pub binary : Key → (ℕ → ℕ) → Bool
binary K x = every K.m (λ k. leb (x k) 1)

-- Document 01's table, second row: 6 to 10, of the inputs that each call takes
abbrev pub sized : List ℕ → ℕ → Bool
sized x n = eqb (length x) n

module _ (K : Key) (seeds : List ℕ) where
  unfoldable pub checks1 : List Check
  checks1 = not (sized seeds (16 * K.M)) ⇒ 6 ∷ []

  module _ (secret E κ : List ℕ) where
    unfoldable pub statement_checks : List Check
    statement_checks =
        not (good_e K E) ⇒ 7
        ∷ not (binary K (λ k. get_or secret k 0)) ⇒ 8
        ∷ not (solves K (λ k. get_or secret k 0)) ⇒ 9
        ∷ []

    unfoldable pub checks3 : List Check
    checks3 = not (holds (sized seeds (16 * K.M) ∷ sized secret K.m ∷ sized κ 16 ∷ [])) ⇒ 6 ∷ statement_checks

    unfoldable pub checks5 : List ℕ → List Check
    checks5 L =
        not (holds (sized seeds (16 * K.M) ∷ sized secret K.m ∷ sized κ 16 ∷ sized L 16 ∷ [])) ⇒ 6 ∷ statement_checks

    unfoldable pub checks7 : List ℕ → List ℕ → List Check
    checks7 L hidden = checks5 L ++ (not (good_hidden K hidden) ⇒ 10 ∷ [])

-- 11: the place is past the output's end, or the message longer than the output from there on, or a work list too short.
unfoldable pub lent_checks : Key → List ℕ → ℕ → ℕ → ℕ → ℕ → List Check
lent_checks K message size from work entry =
    not
    (holds
    (leb from size
    ∷ leb (length message) (size - from)
    ∷ leb (4 * K.m * K.N) work
    ∷ leb (entries K) entry
    ∷ []))
    ⇒ 11
    ∷ []

-- What a call leaves in the output: the message from the place on, or every byte as it was.
unfoldable pub output : Verdict → List ℕ → ℕ → List ℕ → List ℕ
output accepted message from out = take from out ++ message ++ drop (from + length message) out
output (refused n) message from out = out

-- The calls' verdicts, from the key's bytes, the inputs, the output's length, the place and the lengths of both work lists.
module _ (key seeds : List ℕ) where
  unfoldable pub verdict1 : ℕ → ℕ → ℕ → ℕ → Verdict
  verdict1 size from work entry =
      let K = key_of key in first (key_checks K key ++ checks1 K seeds ++ lent_checks K (message1 K seeds) size from work entry)

  module _ (secret E κ : List ℕ) where
    unfoldable pub verdict3 : ℕ → ℕ → ℕ → ℕ → Verdict
    verdict3 size from work entry =
        let K = key_of key in
        first
        (key_checks K key ++ checks3 K seeds secret E κ
        ++ lent_checks K (message3 K seeds secret E κ) size from work entry)

    unfoldable pub verdict5 : List ℕ → ℕ → ℕ → ℕ → ℕ → Verdict
    verdict5 L size from work entry =
        let K = key_of key in
        first
        (key_checks K key ++ checks5 K seeds secret E κ L
        ++ lent_checks K (message5 K seeds secret E κ L) size from work entry)

    unfoldable pub verdict7 : List ℕ → List ℕ → ℕ → ℕ → ℕ → ℕ → Verdict
    verdict7 L hidden size from work entry =
        let K = key_of key in
        first
        (key_checks K key ++ checks7 K seeds secret E κ L hidden
        ++ lent_checks K (message7 K seeds secret E κ L hidden) size from work entry)
