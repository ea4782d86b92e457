-- `aes_wide::rounds_from` meets its contract: before turn k, u holds the states after k rounds. Assumes nothing.
use Rattle.std.proofs.Common.{ℕ, List}
use Rattle.aes.specs.Fips197.{rounds}
use Rattle.aes_wide.specs.Wide.{Lanes}
use Rattle.aes_wide.proofs.rounds_from.Given as goal

abbrev pub invariant-loop-k : goal.invariant-loop-k
invariant-loop-k l = (s : ℕ → List ℕ) → Lanes l.initial.u (λ b. rounds l.w l.n (s b)) → Lanes l.u (λ b. rounds l.w l.k (s b))
