-- Document 01, Judge, level 2: what it reads from the parts, what it recomputes, and its verdict.
-- Assumes nothing.
use Rattle.std.specs.Prelude.{ℕ, suc, ◌+◌, ◌*◌, ◌%◌, Bool, true, not, List, [], ◌∷◌, ◌++◌, ltb, leb, eqb, length, take, drop}
use Rattle.lists.specs.Index.{pick, cat, every, same, part, holds}
use Rattle.lists.specs.Bytes.{num}
use Rattle.lists.specs.Check.{Check, ◌⇒◌, Verdict, first}
use Rattle.numbers.specs.Sum.{sum}
use Rattle.tree.specs.Tree.{reopened}
use Rattle.protocol.specs.Key.{Key, depth, entries, kept_count, key_of, key_checks}
use Rattle.protocol.specs.Shares.{H, View, Ωin, o, dealt}
use Rattle.protocol.specs.Prover.{opened, rank, place, hΓin, hπin, hψin, hidden_of, good_e, good_hidden}
use Rattle.protocol.specs.Transcript.{Parts, parts_of, good_header}

module _ (K : Key) (P : Parts) where
  -- the hidden party of kept execution e, from 0
  unfoldable pub hidden : ℕ → ℕ
  hidden e = hidden_of P.p2 P.p6 e

  abbrev pub hides_n : ℕ → Bool
  hides_n e = eqb (suc (hidden e)) K.N

  -- Part 7: K, then for each kept execution its opened seeds, Γ, m numbers α and one o; where N isn't hidden, also m d's and m s's.
  unfoldable pub given_count : ℕ → ℕ
  given_count e = K.m + 1 + pick (hides_n e) 0 (2 * K.m)

  unfoldable pub reply_size : ℕ → ℕ
  reply_size e = pick (opened P.p2 e) 0 (16 * depth K + 32 + 4 * given_count e)

  unfoldable pub reply_at : ℕ → List ℕ
  reply_at e = part P.p7 (16 + sum e reply_size) (reply_size e)

  -- number j of what follows the opened seeds and Γ
  unfoldable pub given : ℕ → ℕ → ℕ
  given e j = num (drop (16 * depth K + 32) (reply_at e)) j

  abbrev pub κ : List ℕ
  κ = take 16 P.p7

  -- Part 3: the master seeds of E, Ω of the kept, hπ.
  unfoldable pub master_at : ℕ → List ℕ
  master_at e = part P.p3 (16 * rank P.p2 e) 16

  unfoldable pub Ω_at : ℕ → List ℕ
  Ω_at e = part P.p3 (16 * K.τ + 32 * place P.p2 e) 32

  unfoldable pub hπ_at : List ℕ
  hπ_at = part P.p3 (16 * K.τ + 32 * kept_count K) 32

  -- an execution opened by master seed, and a kept one; h(e) of the first does not depend on the secret
  unfoldable pub opened_view : ℕ → View
  opened_view e = dealt K e (master_at e) (λ k. 0)

  unfoldable pub kept_view : ℕ → View
  kept_view e =
      record {
        ex = e;
        seed = reopened (depth K) (hidden e) (take (16 * depth K) (reply_at e));
        hid = hidden e;
        Γh = part (reply_at e) (16 * depth K) 32;
        αh = λ k. given e k;
        oh = given e K.m;
        d_n = λ k. given e (K.m + 1 + k);
        s_n = λ k. given e (2 * K.m + 1 + k);
      }

  unfoldable pub view : ℕ → View
  view e = pick (opened P.p2 e) (opened_view e) (kept_view e)

  -- every number of part 7 is below q
  unfoldable pub good_numbers : Bool
  good_numbers =
      every K.M (λ e. pick (opened P.p2 e) true (every (given_count e) (λ j. ltb (given e j) K.q)))

  -- Document 01's table: E 7, hidden list 10, seventh length 13, a number q or more 14
  unfoldable pub form_checks : List Check
  form_checks =
      not (good_e K P.p2) ⇒ 7
      ∷ not (good_hidden K P.p6) ⇒ 10
      ∷ not (eqb (length P.p7) (16 + sum K.M reply_size)) ⇒ 13
      ∷ not good_numbers ⇒ 14
      ∷ []

  -- per kept execution: Ω (if N is open) 16, sum of o not 0 15
  unfoldable pub execution_checks : ℕ → List Check
  execution_checks e =
      not (pick (hides_n e) true (same (Ω_at e) (H (Ωin K (kept_view e))))) ⇒ 16
      ∷ not (eqb (sum K.N (o K (kept_view e) P.p4) % K.q) 0) ⇒ 15
      ∷ []

  -- hΓ 17, hπ 18, hψ 19
  unfoldable pub hash_checks : List Check
  hash_checks =
      not (same P.p1 (H (hΓin K view))) ⇒ 17
      ∷ not (same hπ_at (H (hπin K view P.p2 κ))) ⇒ 18
      ∷ not (same P.p5 (H (hψin K view P.p2 κ P.p4))) ⇒ 19
      ∷ []

  unfoldable pub parts_checks : List Check
  parts_checks =
      form_checks ++ cat K.M (λ e. pick (opened P.p2 e) [] (execution_checks e)) ++ hash_checks

-- the judge on a file, for a key that was read; and from the key's bytes
unfoldable pub run_checks : Key → List ℕ → List Check
run_checks K x = not (good_header K x) ⇒ 12 ∷ parts_checks K (parts_of x)

unfoldable pub judge : List ℕ → List ℕ → Verdict
judge key x = first (key_checks (key_of key) key ++ run_checks (key_of key) x)

-- the same with lent lists of these lengths, work and the list for A and t: 11 comes right after the key
unfoldable pub lent_enough : Key → ℕ → ℕ → Bool
lent_enough K work entry = holds (leb (4 * K.m * K.N) work ∷ leb (entries K) entry ∷ [])

unfoldable pub judge_lent : List ℕ → ℕ → ℕ → List ℕ → Verdict
judge_lent key work entry x =
    first (key_checks (key_of key) key ++ not (lent_enough (key_of key) work entry) ⇒ 11 ∷ run_checks (key_of key) x)
