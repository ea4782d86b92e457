-- From the header and the seven slices to the verdict on a file, and from the key's bytes to the verdict on both.
-- Assumes nothing.
use Prim.Native.Nat.{ℕ, ◌+◌, ◌*◌, ◌-◌, ◌<◌, ◌≤◌}
use mathlib.Core.Path.{◌≡◌, sym, ◌∙◌, ap, ap₂, subst}
use mathlib.Core.Bool.{true, false, not}
use mathlib.Core.List.{List, [], ◌∷◌, ◌++◌}
use native.Mathlib.Nat.{mul-le-mul}
use native.Mathlib.Omega.{arith}
use borrow.Author.Tests.{le-leb, lt-leb}
use lib.Dec.{leb}
use lib.ListN.{length, take}
use lib.Seq.{take_at}
use Rattle.lists.specs.Tab.{tab, tab-length}
use Rattle.lists.specs.Check.{Verdict, accepted, refused, first}
use Rattle.lists.specs.TestLaws.{pick_true, pick_false, not_of_true, not_of_false, first_hit, first_miss, first_stops, first_more, each_holds, holds-fails}
use Rattle.protocol.specs.Key.{Key, entries, key_of, key_checks}
use Rattle.protocol.specs.Transcript.{parts_of, sizes, good_header}
use Rattle.protocol.specs.Judge.{parts_checks, run_checks, lent_enough, judge_lent}
use Rattle.key.specs.declared.sizes.Numbers.{Numbers}
use Rattle.key.specs.Numbers.{Read, key_with}
use Rattle.key.specs.KeyLaws.{entries_of, key_is}
use Rattle.transcript.specs.Layout.{part-long}
use Rattle.judge.specs.Lists.{parts_lists, run_lists}

pub three_of_four : (m N : ℕ) {w : ℕ} → 4 * m * N ≤ w → 3 * m * N ≤ w
three_of_four m N {w} h = let l : 3 * m * N ≤ 4 * m * N = mul-le-mul {n₁ = 3 * m} {m₁ = N} {n₂ = 4 * m} {m₂ = N} (omega arith) (omega arith) in omega (arith, l, h)

module _ (K : Key) (x : List ℕ) where
  pub header_bad : good_header K x ≡ false → refused 12 ≡ first (run_checks K x)
  unfolding run_checks
  header_bad e = sym (first_hit (not (good_header K x)) 12 (parts_checks K (parts_of x)) (not_of_false e))

  pub header_kept : (lists : List ℕ) → good_header K x ≡ false → lists ≡ run_lists K x lists
  unfolding run_lists
  header_kept lists e = sym (pick_false (good_header K x) (parts_lists K (parts_of x) lists) lists e)

  module _ (good : good_header K x ≡ true) where
    pub third_long : length (parts_of x).p3 ≡ 16 * K.τ + 32 * (K.M - K.τ) + 32
    unfolding parts_of sizes
    third_long = part-long K x good 2 (omega arith)

    pub fourth_long : length (parts_of x).p4 ≡ 16
    unfolding parts_of sizes
    fourth_long = part-long K x good 3 (omega arith)

    pub header_good : {v : Verdict} → v ≡ first (parts_checks K (parts_of x)) → v ≡ first (run_checks K x)
    unfolding run_checks
    header_good is = is ∙ sym (first_miss (not (good_header K x)) 12 (parts_checks K (parts_of x)) (not_of_true good))

    pub header_lists : {y : List ℕ} (lists : List ℕ) → y ≡ parts_lists K (parts_of x) lists → y ≡ run_lists K x lists
    unfolding run_lists
    header_lists lists is = is ∙ sym (pick_true (good_header K x) (parts_lists K (parts_of x) lists) lists good)

-- ---- from the key's bytes
module _ (key x : List ℕ) (work entry : ℕ) where
  pub key_refused : {n : ℕ} → first (key_checks (key_of key) key) ≡ refused n → judge_lent key work entry x ≡ refused n
  unfolding judge_lent
  key_refused e = first_stops (key_checks (key_of key) key) _ e

  module _ (good : first (key_checks (key_of key) key) ≡ accepted) where
    pub room_refused : lent_enough (key_of key) work entry ≡ false → refused 11 ≡ judge_lent key work entry x
    unfolding judge_lent
    room_refused e =
        sym (first_more (key_checks (key_of key) key) _ good ∙ first_hit (not (lent_enough (key_of key) work entry)) 11 (run_checks (key_of key) x) (not_of_false e))

    pub run_verdict : {v : Verdict} → lent_enough (key_of key) work entry ≡ true → v ≡ first (run_checks (key_of key) x) → v ≡ judge_lent key work entry x
    unfolding judge_lent
    run_verdict {v} e is =
        is
        ∙ sym (first_more (key_checks (key_of key) key) _ good ∙ first_miss (not (lent_enough (key_of key) work entry)) 11 (run_checks (key_of key) x) (not_of_true e))

module _ (key : List ℕ) (k : Numbers) (read : Read key k) where
  work_is : 4 * k.m * k.parties ≡ 4 * (key_of key).m * (key_of key).N
  work_is = ap₂ (λ (a b : ℕ). 4 * a * b) read.of.m_is read.of.parties_is

  pub work_short : {work : ℕ} (entry : ℕ) → work < 4 * k.m * k.parties → lent_enough (key_of key) work entry ≡ false
  unfolding lent_enough
  work_short {work} entry h =
      holds-fails (leb (4 * (key_of key).m * (key_of key).N) work ∷ leb (entries (key_of key)) entry ∷ []) 0
      (lt-leb (4 * (key_of key).m * (key_of key).N) work (subst (λ (y : ℕ). work < y) work_is h))

  pub entries_short : (work : ℕ) {entry : ℕ} → entry < k.n * (k.m + 1) → lent_enough (key_of key) work entry ≡ false
  unfolding lent_enough
  entries_short work {entry} h =
      holds-fails (leb (4 * (key_of key).m * (key_of key).N) work ∷ leb (entries (key_of key)) entry ∷ []) 1
      (lt-leb (entries (key_of key)) entry (subst (λ (y : ℕ). entry < y) (entries_of k (key_of key) read.of) h))

  pub room-enough : {work entry : ℕ} → 4 * k.m * k.parties ≤ work → k.n * (k.m + 1) ≤ entry → lent_enough (key_of key) work entry ≡ true
  unfolding lent_enough
  room-enough {work} {entry} h l =
      each_holds (leb (4 * (key_of key).m * (key_of key).N) work ∷ leb (entries (key_of key)) entry ∷ []) (
        le-leb (4 * (key_of key).m * (key_of key).N) work (subst (λ (y : ℕ). y ≤ work) work_is h),
        (le-leb (entries (key_of key)) entry (subst (λ (y : ℕ). y ≤ entry) (entries_of k (key_of key) read.of) l), tt),
      )

  -- the first entries of what was lent make the key
  front_is : (rest : List ℕ) {l : List ℕ} {n : ℕ} → n ≡ k.n * (k.m + 1) → l ≡ tab (entries (key_of key)) (key_of key).entry ++ rest
      → take n l ≡ tab (entries (key_of key)) (key_of key).entry
  front_is rest {l} {n} e is =
      ap₂ (λ (a : ℕ) (b : List ℕ). take a b) (e ∙ entries_of k (key_of key) read.of) is
      ∙ take_at (tab (entries (key_of key)) (key_of key).entry) rest (entries (key_of key)) (tab-length (entries (key_of key)) (key_of key).entry)

  pub front_long : (rest : List ℕ) {l : List ℕ} {n : ℕ} → n ≡ k.n * (k.m + 1) → l ≡ tab (entries (key_of key)) (key_of key).entry ++ rest → length (take n l) ≡ n
  front_long rest {l} {n} e is =
      ap length (front_is rest e is) ∙ (tab-length (entries (key_of key)) (key_of key).entry ∙ sym (e ∙ entries_of k (key_of key) read.of))

  pub key_with_lem : (rest : List ℕ) {l : List ℕ} {n : ℕ} → n ≡ k.n * (k.m + 1) → l ≡ tab (entries (key_of key)) (key_of key).entry ++ rest → key_with k (take n l) ≡ key_of key
  key_with_lem rest {l} {n} e is = ap (key_with k) (front_is rest e is) ∙ key_is key k read

  pub verdict_with : (x : List ℕ) {L : Key} {v : Verdict} → L ≡ key_of key → v ≡ first (run_checks L x) → v ≡ first (run_checks (key_of key) x)
  verdict_with x {L} {v} e is = is ∙ ap (λ (y : Key). first (run_checks y x)) e
