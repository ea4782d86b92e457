-- What two transcripts are refused for, test by test.
-- Assumes nothing.
use Prim.Native.Nat.{ℕ}
use mathlib.Core.Path.{◌≡◌, sym, ◌∙◌, ap}
use mathlib.Core.Bool.{Bool, true, false}
use mathlib.Core.List.{List}
use Rattle.lists.specs.Index.{same}
use Rattle.std.specs.Prelude.{Result, Ok, Err}
use Rattle.std.specs.Result.{is_ok}
use Rattle.lists.specs.TestLaws.{pick_true, pick_false}
use Rattle.lists.specs.Check.{Verdict, accepted, refused, first}
use Rattle.protocol.specs.Key.{Key}
use Rattle.protocol.specs.Transcript.{parts_of}
use Rattle.protocol.specs.Judge.{run_checks}
use Rattle.protocol.specs.Pair.{same_front, is_accepted}
use Rattle.judge.specs.Lists.{run_lists}
use Rattle.refusals.specs.declared.Refusal.{Refusal}
use Rattle.refusals.specs.Refused.{verdict_of}
use Rattle.accepted.specs.Forks.{fork_checks, second_lists}

-- a verdict by the result that stands for it
pub accepted_by : {A : Type 0} (r : Result A Refusal) {v : Verdict} {b : Bool} → verdict_of r ≡ v → b ≡ is_ok r → is_accepted v ≡ b
unfolding is_accepted
accepted_by (Ok a) e w = ap is_accepted (sym e) ∙ sym w
accepted_by (Err n) e w = ap is_accepted (sym e) ∙ sym w

module _ (K : Key) (x y : List ℕ) where
  pub first_refused : is_accepted (first (run_checks K x)) ≡ false → refused 20 ≡ first (fork_checks K x y)
  unfolding fork_checks first
  first_refused a = rw (a)

  pub second_kept : (l : List ℕ) → is_accepted (first (run_checks K x)) ≡ false → l ≡ second_lists K x y l
  unfolding second_lists
  second_kept l a = sym (pick_false (is_accepted (first (run_checks K x))) (run_lists K y l) l a)

  module _ (a : is_accepted (first (run_checks K x)) ≡ true) where
    pub second_lists_lem : {z : List ℕ} (l : List ℕ) → z ≡ run_lists K y l → z ≡ second_lists K x y l
    unfolding second_lists
    second_lists_lem l is = is ∙ sym (pick_true (is_accepted (first (run_checks K x))) (run_lists K y l) l a)

    pub second_refused : is_accepted (first (run_checks K y)) ≡ false → refused 21 ≡ first (fork_checks K x y)
    unfolding fork_checks first
    second_refused b = rw (a, b)

    module _ (b : is_accepted (first (run_checks K y)) ≡ true) where
      pub fronts_differ : same_front K (parts_of x) (parts_of y) ≡ false → refused 22 ≡ first (fork_checks K x y)
      unfolding fork_checks first
      fronts_differ c = rw (a, b, c)

      pub hidden_equal : same_front K (parts_of x) (parts_of y) ≡ true → same (parts_of x).p6 (parts_of y).p6 ≡ true → refused 23 ≡ first (fork_checks K x y)
      unfolding fork_checks first
      hidden_equal c d = rw (a, b, c, d)

      pub forks : same_front K (parts_of x) (parts_of y) ≡ true → same (parts_of x).p6 (parts_of y).p6 ≡ false → accepted ≡ first (fork_checks K x y)
      unfolding fork_checks first
      forks c d = rw (a, b, c, d)
