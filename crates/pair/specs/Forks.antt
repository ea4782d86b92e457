-- Document 01, Pair reader: two transcripts that fork, and what lists hold of their execution. Executions and parties count from 0.
-- Assumes nothing.
use Rattle.std.specs.Prelude.{ℕ, ◌≡◌, true, false, List}
use Rattle.lists.specs.Index.{same}
use Rattle.lists.specs.Check.{accepted, first}
use Rattle.protocol.specs.Key.{Key}
use Rattle.protocol.specs.Transcript.{Parts, parts_of}
use Rattle.protocol.specs.Judge.{hidden, κ, kept_view, run_checks}
use Rattle.protocol.specs.Pair.{execution, same_front}
use Rattle.protocol.specs.Accepts.{GoodKey}
use Rattle.inputs.specs.Layout.{Written}
use Rattle.joined.specs.Joined.{Joined}

-- none of 20 to 23 applies
pub record Forks (K : Key) (x y : List ℕ) : Type 0 where
  pub key : GoodKey K
  pub first_good : first (run_checks K x) ≡ accepted
  pub second_good : first (run_checks K y) ≡ accepted
  pub fronts : same_front K (parts_of x) (parts_of y) ≡ true
  pub hidden_differ : same (parts_of x).p6 (parts_of y).p6 ≡ false

-- e is the execution that the reader works on; the parties that the two transcripts hide in it
pub record Located (K : Key) (x y : List ℕ) (e hid1 hid2 : ℕ) : Type 0 where
  pub works : e ≡ execution K (parts_of x) (parts_of y)
  pub hides1 : hidden K (parts_of x) e ≡ hid1
  pub hides2 : hidden K (parts_of y) e ≡ hid2

-- the hash inputs of execution e in both, and its joined values
pub record Sides (K : Key) (P R : Parts) (e : ℕ) (i1 i2 sums : List ℕ) : Type 0 where
  pub written1 : Written K (kept_view K P e) (κ K P) P.p4 i1
  pub written2 : Written K (kept_view K R e) (κ K R) R.p4 i2
  pub joined : Joined K P R e sums
