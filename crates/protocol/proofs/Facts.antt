-- The judge accepts exactly where every fact of `Accepts` holds: each of its tests, turned into what it says, and back.
-- Assumes nothing.
use Prim.Native.Nat.{ℕ, suc, ◌+◌, ◌*◌, ◌-◌, ◌≤◌, ◌<◌}
use mathlib.Core.Path.{◌≡◌, refl, sym, ap, ◌∙◌}
use mathlib.Core.Logic.{⊎_elim}
use mathlib.Core.Bool.{Bool, true, false}
use mathlib.Core.List.{List, [], ◌∷◌, ◌++◌}
use native.Mathlib.Omega.{arith}
use lib.Dec.{ltb}
use lib.ListN.{length, get_or}
use borrow.Author.Tests.{lt-ltb, le-ltb, le-leb, eq-eqb, ltb-true, leb-true, eqb-true, not-false}
use Rattle.lists.specs.Index.{pick, cat, every}
use Rattle.lists.specs.Bytes.{num}
use Rattle.lists.specs.Check.{Check, accepted, first}
use Rattle.lists.specs.TestLaws.{decide, not_of_true, every_all, every-at, each_holds, same_of, clean-append, cat-clean, same_eq, holds-each, Clean, clean, clean-left, clean-right, clean-cat, cleared, first_more, pick_false}
use Rattle.lists.specs.CatLaws.{part_length}
use Rattle.numbers.specs.Sum.{sum}
use Rattle.numbers.proofs.Sum.{sum_suc, sum_grows}
use Rattle.protocol.specs.Key.{Key, entries, kept_count, key_of, limits, key_checks}
use Rattle.protocol.specs.Prover.{opened, good_e, good_hidden}
use Rattle.protocol.specs.Transcript.{Parts, part_at, parts_of, sizes, file_end, good_header}
use Rattle.protocol.specs.Judge.{hides_n, given_count, given, good_numbers, form_checks, execution_checks, hash_checks, parts_checks, run_checks, judge}
use Rattle.protocol.specs.Accepts.{GoodKey, GoodHeader, GoodParts, GoodValues, Accepts}
use Rattle.protocol.proofs.KeyFacts.{good}

-- ---- the key
pub key_facts : (K : Key) (x : List ℕ) → Clean (key_checks K x) → (length x ≡ 24 + 4 * entries K) × GoodKey K
unfolding key_checks
key_facts K x c = (eqb-true _ _ (not-false _ c.1.1.1.0), good K x c)

-- ---- the header and the parts
header_facts : (K : Key) (x : List ℕ) → good_header K x ≡ true → GoodHeader K x
unfolding good_header
header_facts K x e =
    let l = holds-each _ e in
    record {
      least = leb-true _ _ l.0;
      size = λ i h. eqb-true _ _ (every-at _ _ l.1.0 i h);
      offset = λ i h. eqb-true _ _ (every-at _ _ l.1.1.0 i h);
      end = omega (arith, eqb-true (file_end x) (length x) l.1.1.1.0);
    }

-- A part of the header's offset and length.
part-long : (x : List ℕ) (i at size : ℕ) → num x (2 * i) ≡ at → num x (2 * i + 1) ≡ size → at + size ≤ length x → length (part_at x i) ≡ size
unfolding part_at
part-long x i at size e f h = part_length x (num x (2 * i)) (num x (2 * i + 1)) (omega arith) ∙ f

module _ (K : Key) (x : List ℕ) (h : GoodHeader K x) where
  size_of : ℕ → ℕ
  size_of j = get_or (sizes K) j 0

  ends : (num x 12 ≡ 56 + sum 6 size_of) × (num x 13 ≡ length x - num x 12)
  unfolding size_of
  ends = (h.offset 6 (omega arith), omega (arith, h.end))

  part_is : (i : ℕ) → i < 6 → length (part_at x i) ≡ get_or (sizes K) i 0
  unfolding size_of
  part_is i l =
      let e : suc i + (5 - i) ≡ 6 = omega arith in
      part-long x i (56 + sum i size_of) (size_of i) (h.offset i (omega arith)) (h.size i l)
      (omega (arith, h.end, ends.0, sum_suc i size_of, sum_grows size_of (suc i) (5 - i), ap (λ n. sum n size_of) e))

-- E and the hidden list, entry by entry.
module _ (K : Key) (E : List ℕ) (good : good_e K E ≡ true) where
  pub e_rising : (j : ℕ) → j < length E → get_or (0 ∷ E) j 0 < get_or E j 0
  unfolding good_e
  e_rising j h = ltb-true _ _ (every-at _ _ (holds-each _ good).1.0 j h)

  pub opened_within : (j : ℕ) → j < length E → get_or E j 0 ≤ K.M
  unfolding good_e
  opened_within j h = leb-true _ _ (every-at _ _ (holds-each _ good).1.1.0 j h)

module _ (K : Key) (list : List ℕ) (good : good_hidden K list ≡ true) where
  pub hidden_from : (j : ℕ) → j < length list → 1 ≤ get_or list j 0
  unfolding good_hidden
  hidden_from j h = leb-true _ _ (every-at _ _ (holds-each _ good).1.0 j h)

  pub hidden_to : (j : ℕ) → j < length list → get_or list j 0 ≤ K.N
  unfolding good_hidden
  hidden_to j h = leb-true _ _ (every-at _ _ (holds-each _ good).1.1.0 j h)

parts_facts : (K : Key) (x : List ℕ) → GoodHeader K x → Clean (form_checks K (parts_of x)) → GoodParts K (parts_of x)
unfolding parts_of sizes form_checks good_numbers
parts_facts K x h c =
    let good_e_lem = not-false (good_e K (parts_of x).p2) c.0 in
    let good_hidden_lem = not-false (good_hidden K (parts_of x).p6) c.1.0 in
    let good-numbers = not-false (good_numbers K (parts_of x)) c.1.1.1.0 in
    let long2 : length (parts_of x).p2 ≡ K.τ = part_is K x h 1 (omega arith) in
    let long6 : length (parts_of x).p6 ≡ kept_count K = part_is K x h 5 (omega arith) in
    record {
      long1 = part_is K x h 0 (omega arith);
      long2 = long2;
      long3 = part_is K x h 2 (omega arith);
      long4 = part_is K x h 3 (omega arith);
      long5 = part_is K x h 4 (omega arith);
      long6 = long6;
      long7 = eqb-true _ _ (not-false _ c.1.1.0);
      e_rises = λ j l. e_rising K (parts_of x).p2 good_e_lem j (omega (arith, long2));
      e_most = λ j l. opened_within K (parts_of x).p2 good_e_lem j (omega (arith, long2));
      hidden_least = λ j l. hidden_from K (parts_of x).p6 good_hidden_lem j (omega (arith, long6));
      hidden_most = λ j l. hidden_to K (parts_of x).p6 good_hidden_lem j (omega (arith, long6));
      below = λ e l k j b. ltb-true _ _ (every-at _ _ (rw k at (every-at _ _ good-numbers e l)) j b);
    }

-- ---- the values
abbrev kept_checks : Key → Parts → List Check
kept_checks K P = cat K.M (λ e. pick (opened P.p2 e) [] (execution_checks K P e))

values_facts : (K : Key) (P : Parts) → Clean (kept_checks K P) → Clean (hash_checks K P) → GoodValues K P
unfolding execution_checks hash_checks
values_facts K P c d =
    record {
      Ω = λ e l k n. same_eq _ _ (sym (pick_false _ _ _ n) ∙ not-false _ (tests e l k).0);
      zero_sum = λ e l k. eqb-true _ _ (not-false _ (tests e l k).1.0);
      hΓ = same_eq _ _ (not-false _ d.0);
      hπ = same_eq _ _ (not-false _ d.1.0);
      hψ = same_eq _ _ (not-false _ d.1.1.0);
    }
  where
    tests : (e : ℕ) → e < K.M → opened P.p2 e ≡ false → Clean (execution_checks K P e)
    tests e l k = rw k at (clean-cat K.M (λ e. pick (opened P.p2 e) [] (execution_checks K P e)) c e l)

-- The tests of one file, for a key that was read.
pub run_facts : (K : Key) (x : List ℕ) → first (run_checks K x) ≡ accepted
    → GoodHeader K x × GoodParts K (parts_of x) × GoodValues K (parts_of x)
unfolding run_checks parts_checks
run_facts K x e =
    let h = header_facts K x (not-false _ c.0) in
    (h, parts_facts K x h form, values_facts K (parts_of x) executions hashes)
  where
    c : Clean (run_checks K x)
    c = clean (run_checks K x) e

    left : Clean (form_checks K (parts_of x) ++ kept_checks K (parts_of x))
    left = clean-left (form_checks K (parts_of x) ++ kept_checks K (parts_of x)) (hash_checks K (parts_of x)) c.1

    form : Clean (form_checks K (parts_of x))
    form = clean-left (form_checks K (parts_of x)) (kept_checks K (parts_of x)) left

    executions : Clean (kept_checks K (parts_of x))
    executions = clean-right (form_checks K (parts_of x)) (kept_checks K (parts_of x)) left

    hashes : Clean (hash_checks K (parts_of x))
    hashes = clean-right (form_checks K (parts_of x) ++ kept_checks K (parts_of x)) (hash_checks K (parts_of x)) c.1

-- The whole judge.
pub judge_key : (key x : List ℕ) → judge key x ≡ accepted → Clean (key_checks (key_of key) key)
unfolding judge
judge_key key x e = clean-left (key_checks (key_of key) key) (run_checks (key_of key) x) (clean _ e)

pub judge_run : (key x : List ℕ) → judge key x ≡ accepted → first (run_checks (key_of key) x) ≡ accepted
unfolding judge
judge_run key x e = sym (first_more (key_checks (key_of key) key) (run_checks (key_of key) x) (cleared _ (judge_key key x e))) ∙ e

pub accepts : (key x : List ℕ) → judge key x ≡ accepted → Accepts key x
accepts key x e =
    let k = key_facts (key_of key) key (judge_key key x e) in
    let r = run_facts (key_of key) x (judge_run key x e) in
    record { long = k.0; good_key = k.1; good_header_lem = r.0; good_parts = r.1; good_values = r.2 }

-- ---- the other way: the facts make every test fail
key_clean : (K : Key) (x : List ℕ) → length x ≡ 24 + 4 * entries K → GoodKey K → Clean (key_checks K x)
unfolding key_checks limits
key_clean K x long g = (
  le-ltb (length x) 24 (omega (arith, long)),
  (
    not_of_true g.q.listed,
    (
      not_of_true
          (each_holds (limits K) (
            le-leb _ _ g.n_least,
            (
              le-leb _ _ g.n_most,
              (
                le-leb _ _ g.m_least,
                (
                  le-leb _ _ g.m_most,
                  (
                    lt-ltb _ _ g.n_below,
                    (
                      g.N.listed,
                      (
                        le-leb _ _ g.executions_least,
                        (le-leb _ _ g.executions_most, (le-leb _ _ g.τ_least, (lt-ltb _ _ g.τ_below, tt))),
                      ),
                    ),
                  ),
                ),
              ),
            ),
          )),
      (not_of_true (eq-eqb _ _ long), (not_of_true (every_all _ _ (λ j h. lt-ltb _ _ (g.entry_lt j h))), tt)),
    ),
  ),
)

header_true : (K : Key) (x : List ℕ) → GoodHeader K x → good_header K x ≡ true
unfolding good_header
header_true K x g =
    each_holds _ (
      le-leb _ _ g.least,
      (
        every_all _ _ (λ i h. eq-eqb _ _ (g.size i h)),
        (every_all _ _ (λ i h. eq-eqb _ _ (g.offset i h)), (eq-eqb _ _ g.end, tt)),
      ),
    )

module _ (K : Key) (P : Parts) (g : GoodParts K P) where
  e_true : good_e K P.p2 ≡ true
  unfolding good_e
  e_true =
      each_holds _ (
        eq-eqb _ _ g.long2,
        (
          every_all _ _ (λ j h. lt-ltb _ _ (g.e_rises j (omega (arith, g.long2)))),
          (every_all _ _ (λ j h. le-leb _ _ (g.e_most j (omega (arith, g.long2)))), tt),
        ),
      )

  hidden_true : good_hidden K P.p6 ≡ true
  unfolding good_hidden
  hidden_true =
      each_holds _ (
        eq-eqb _ _ g.long6,
        (
          every_all _ _ (λ j h. le-leb _ _ (g.hidden_least j (omega (arith, g.long6)))),
          (every_all _ _ (λ j h. le-leb _ _ (g.hidden_most j (omega (arith, g.long6)))), tt),
        ),
      )

  numbers_true : good_numbers K P ≡ true
  unfolding good_numbers
  numbers_true = every_all _ _ (λ e h. go e h (opened P.p2 e) refl)
    where
      go : (e : ℕ) → e < K.M → (t : Bool) → opened P.p2 e ≡ t
          → pick t true (every (given_count K P e) (λ j. ltb (given K P e j) K.q)) ≡ true
      go e h true c = refl
      go e h false c = every_all _ _ (λ j l. lt-ltb _ _ (g.below e h c j l))

  form_clean : Clean (form_checks K P)
  unfolding form_checks
  form_clean = (
    not_of_true e_true,
    (not_of_true hidden_true, (not_of_true (eq-eqb _ _ g.long7), (not_of_true numbers_true, tt))),
  )

module _ (K : Key) (P : Parts) (g : GoodValues K P) where
  execution_clean : (e : ℕ) → e < K.M → opened P.p2 e ≡ false → Clean (execution_checks K P e)
  unfolding execution_checks
  execution_clean e h c = (
    ⊎_elim (λ n. rw n) (λ n. rw n (not_of_true (same_of (g.Ω e h c n)))) (decide (hides_n K P e)),
    (not_of_true (eq-eqb _ _ (g.zero_sum e h c)), tt),
  )

  executions_clean : Clean (kept_checks K P)
  executions_clean = cat-clean K.M (λ e. pick (opened P.p2 e) [] (execution_checks K P e)) (λ e h. go e h (opened P.p2 e) refl)
    where
      go : (e : ℕ) → e < K.M → (t : Bool) → opened P.p2 e ≡ t → Clean (pick t [] (execution_checks K P e))
      go e h true c = tt
      go e h false c = execution_clean e h c

  hashes_clean : Clean (hash_checks K P)
  unfolding hash_checks
  hashes_clean =
      (not_of_true (same_of g.hΓ), (not_of_true (same_of g.hπ), (not_of_true (same_of g.hψ), tt)))

pub accepted_by : (key x : List ℕ) → Accepts key x → judge key x ≡ accepted
unfolding judge run_checks parts_checks
accepted_by key x a =
    cleared (key_checks (key_of key) key ++ run_checks (key_of key) x)
    (clean-append (key_checks (key_of key) key) (run_checks (key_of key) x) (key_clean (key_of key) key a.long a.good_key) (
      not_of_true (header_true (key_of key) x a.good_header_lem),
      clean-append (form_checks (key_of key) (parts_of x) ++ kept_checks (key_of key) (parts_of x)) (hash_checks (key_of key) (parts_of x))
          (clean-append (form_checks (key_of key) (parts_of x)) (kept_checks (key_of key) (parts_of x))
          (form_clean (key_of key) (parts_of x) a.good_parts) (executions_clean (key_of key) (parts_of x) a.good_values))
          (hashes_clean (key_of key) (parts_of x) a.good_values),
    ))
