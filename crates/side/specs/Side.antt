-- A kept execution of an accepted transcript: where its shares and its hash inputs stand. Executions and parties count from 0.
-- Assumes nothing.
use Rattle.std.specs.Prelude.{ℕ, ◌<◌, ◌≡◌, false, List}
use Rattle.lists.specs.Check.{accepted, first}
use Rattle.protocol.specs.Key.{Key}
use Rattle.protocol.specs.Prover.{opened}
use Rattle.protocol.specs.Transcript.{Parts, parts_of}
use Rattle.protocol.specs.Judge.{hidden, κ, kept_view, run_checks}
use Rattle.key.specs.declared.sizes.Numbers.{Numbers}
use Rattle.key.specs.Numbers.{key_with}
use Rattle.execution.specs.Shown.{Shown}
use Rattle.inputs.specs.Layout.{Written}

-- the shares and the hash inputs of execution e of a transcript stand in the lists
pub record Sided (K : Key) (P : Parts) (e : ℕ) (inputs work : List ℕ) : Type 0 where
  pub written : Written K (kept_view K P e) (κ K P) P.p4 inputs
  pub leaves : List ℕ
  pub shown : Shown K (kept_view K P e) leaves work

-- an accepted file, and a kept execution of it with its hidden party
pub record Sound (k : Numbers) (entries x : List ℕ) (e hid : ℕ) : Type 0 where
  pub accepted : first (run_checks (key_with k entries) x) ≡ accepted
  pub within : e < k.executions
  pub kept : opened (parts_of x).p2 e ≡ false
  pub hides : hidden (key_with k entries) (parts_of x) e ≡ hid
  pub below : hid < k.parties
