-- The judge's walk over the executions. D is the depth of the seed tree; r of the executions before e are opened, and the reply of e
-- begins at byte `at` of part 7.
-- Assumes nothing.
use Rattle.std.specs.Prelude.{ℕ, zero, suc, ◌+◌, ◌*◌, ◌-◌, ◌<◌, ◌≡◌, refl, Bool, not, List, [], ◌∷◌, ◌++◌, length, get_or, take, drop}
use Rattle.std.proofs.Common.{sym, ap, ◌∙◌, subst}
use Rattle.std.proofs.Math.Bool.{Bool-set}
use Rattle.lists.specs.Index.{pick, cat, same, part}
use Rattle.lists.specs.Check.{Check, ◌⇒◌, Verdict, accepted, first}
use Rattle.lists.specs.TestLaws.{Clean}
use Rattle.numbers.specs.Sum.{sum}
use Rattle.sha_core.specs.Fips180.{sha256}
use Rattle.protocol.specs.Key.{Key, depth, kept_count}
use Rattle.protocol.specs.Shares.{hin, Πin, Ψin}
use Rattle.protocol.specs.Prover.{opened, rank, place, good_e, good_hidden}
use Rattle.protocol.specs.Transcript.{Parts}
use Rattle.protocol.specs.Judge.{hidden, given_count, reply_at, given, good_numbers, reply_size, κ, view, form_checks, execution_checks}
use Rattle.protocol.specs.Pair.{is_accepted}
use Rattle.execution.specs.Shown.{Sized}
use Rattle.walk.specs.Lists.{hπ_from, hψ_from, Listed}

-- a key and parts of these numbers, whose form is good
pub record Standing (q n m N M τ D : ℕ) (entries p2 p3 p4 p6 p7 : List ℕ) (K : Key) (P : Parts) : Type 0 where
  pub sized : Sized q m N K
  pub rows : K.n ≡ n
  pub executions : K.M ≡ M
  pub openings : K.τ ≡ τ
  pub deep : depth K ≡ D
  pub entry : (j : ℕ) → j < n * (m + 1) → K.entry j ≡ get_or entries j 0
  pub second : P.p2 ≡ p2
  pub third : P.p3 ≡ p3
  pub fourth : P.p4 ≡ p4
  pub sixth : P.p6 ≡ p6
  pub seventh : P.p7 ≡ p7
  pub form : Clean (form_checks K P)

-- the key of these numbers and entries
abbrev pub key_in : (q n m N M τ : ℕ) → List ℕ → Key
key_in q n m N M τ entries = record { q = q; n = n; m = m; N = N; M = M; τ = τ; entry = λ j. get_or entries j 0 }

-- that key and P are so
abbrev pub Stood : (q n m N M τ D : ℕ) → List ℕ → Parts → Type 0
Stood q n m N M τ D entries P = Standing q n m N M τ D entries P.p2 P.p3 P.p4 P.p6 P.p7 (key_in q n m N M τ entries) P

-- Some key of these numbers is enough, whatever its entries: the form does not look at them.
pub stood_by : {q n m N M τ D : ℕ} {entries : List ℕ} {K : Key} {P : Parts} → Standing q n m N M τ D entries P.p2 P.p3 P.p4 P.p6 P.p7 K P
    → Stood q n m N M τ D entries P
unfolding form_checks good_e good_hidden good_numbers reply_size reply_at given given_count hidden depth
stood_by {q} {n} {m} {N} {M} {τ} {D} {entries} {K} {P} so =
    let same : record { q = q; n = n; m = m; N = N; M = M; τ = τ; entry = K.entry } ≡ K =
    λ i. record { q = sym so.sized.modulus i; n = sym so.rows i; m = sym so.sized.columns i; N = sym so.sized.parties i; M = sym so.executions i; τ = sym so.openings i; entry = K.entry } in
    record {
      sized = record { modulus = refl; columns = refl; parties = refl };
      rows = refl;
      executions = refl;
      openings = refl;
      deep = ap depth same ∙ so.deep;
      entry = λ j h. refl;
      second = refl;
      third = refl;
      fourth = refl;
      sixth = refl;
      seventh = refl;
      form = subst (λ (L : Key). Clean (form_checks L P)) (sym same) so.form;
    }

pub clean_prop : (l : List Check) → IsProp (Clean l)
clean_prop [] = hlevel
clean_prop ((b ⇒ n) ∷ l) = hlevel (Bool-set, clean_prop l)

-- the walk has come to execution e
pub record Reached (e r at : ℕ) (K : Key) (P : Parts) : Type 0 where
  pub rank_is : rank P.p2 e ≡ r
  pub at_is : 16 + sum e (reply_size K P) ≡ at

-- of each execution: its tests, h(e), Π and Ψ; the last two and the tests are those of the kept ones
abbrev pub checks_at : Key → Parts → ℕ → List Check
checks_at K P e = pick (opened P.p2 e) [] (execution_checks K P e)

abbrev pub hash_at : Key → Parts → ℕ → List ℕ
hash_at K P e = sha256 (hin K (view K P e))

abbrev pub Π_at : Key → Parts → ℕ → List ℕ
Π_at K P e = sha256 (Πin K (view K P e) (κ K P))

abbrev pub Ψ_at : Key → Parts → ℕ → List ℕ
Ψ_at K P e = sha256 (Ψin K (view K P e) (κ K P) P.p4)

-- x with ys in place of the n entries from a place on
abbrev pub put : List ℕ → ℕ → ℕ → List ℕ → List ℕ
put x at n ys = take at x ++ (ys ++ drop n (drop at x))

-- x with the digests of execution e stored; a kept one has p others before it
abbrev pub placed : (M c e p : ℕ) → Bool → (h pi psi x : List ℕ) → List ℕ
placed M c e p opened h pi psi x =
    pick opened (put x (32 * e) 32 h) (put (put (put x (32 * e) 32 h) (hπ_from M + 32 * p) 32 pi) (hψ_from M c + 32 * p) 32 psi)

-- x after the executions before e: each stores its digests, unless it or one before it is refused
unfoldable pub stored : Key → Parts → ℕ → List ℕ → List ℕ
stored K P zero x = x
stored K P (suc e) x =
    pick (is_accepted (first (cat (suc e) (checks_at K P))))
    (placed K.M (kept_count K) e (place P.p2 e) (opened P.p2 e) (hash_at K P e) (Π_at K P e) (Ψ_at K P e) (stored K P e x)) (stored K P e x)

-- the digests of execution e are stored
pub record Stored (M c e p : ℕ) (opened : Bool) (h pi psi before after : List ℕ) : Type 0 where
  pub long : length after ≡ length before
  pub Γ : part after 0 (32 * e + 32) ≡ part before 0 (32 * e) ++ h
  pub Π : part after (32 * M) (32 * p + pick opened 0 32) ≡ part before (32 * M) (32 * p) ++ pick opened [] pi
  pub Ψ : part after (32 * M + 32 * c) (32 * p + pick opened 0 32) ≡ part before (32 * M + 32 * c) (32 * p) ++ pick opened [] psi

-- execution e is done and not refused: its digests are stored, and the next one stands at `at`, r opened ones before it
pub record Stepped (K : Key) (P : Parts) (e r at : ℕ) (before after : List ℕ) : Type 0 where
  pub next : Reached (e + 1) r at K P
  pub stored : Stored K.M (kept_count K) e (place P.p2 e) (opened P.p2 e) (hash_at K P e) (Π_at K P e) (Ψ_at K P e) before after
  pub lists_are : after ≡ placed K.M (kept_count K) e (place P.p2 e) (opened P.p2 e) (hash_at K P e) (Π_at K P e) (Ψ_at K P e) before

-- what the list, x at first, holds once the executions before e are done, and no refusal
pub record Going (K : Key) (P : Parts) (M c e r at : ℕ) (x lists : List ℕ) : Type 0 where
  pub reached : Reached e r at K P
  pub lists_are : lists ≡ stored K P e x
  pub Γs : part lists 0 (32 * e) ≡ cat e (hash_at K P)
  pub Πs : part lists (32 * M) (32 * (e - r)) ≡ cat e (λ j. pick (opened P.p2 j) [] (Π_at K P j))
  pub Ψs : part lists (32 * M + 32 * c) (32 * (e - r)) ≡ cat e (λ j. pick (opened P.p2 j) [] (Ψ_at K P j))
  pub clean : first (cat e (checks_at K P)) ≡ accepted

-- after the last execution: the first refusal, and the list, which was x; the inputs of the three list hashes if there is no refusal
pub record Walked (K : Key) (P : Parts) (v : Verdict) (x lists : List ℕ) : Type 0 where
  pub verdict_is : v ≡ first (cat K.M (checks_at K P))
  pub lists_are : lists ≡ stored K P K.M x
  pub listed : v ≡ accepted → Listed K P lists

-- Ω and the sum of a kept execution, and the last three tests, on what was computed
abbrev pub kept_tests : (good balanced : Bool) → List Check
kept_tests good balanced = not good ⇒ 16 ∷ not balanced ⇒ 15 ∷ []

abbrev pub hash_tests : (p1 gamma given pi p5 psi : List ℕ) → List Check
hash_tests p1 gamma given pi p5 psi = not (same p1 gamma) ⇒ 17 ∷ not (same given pi) ⇒ 18 ∷ not (same p5 psi) ⇒ 19 ∷ []
