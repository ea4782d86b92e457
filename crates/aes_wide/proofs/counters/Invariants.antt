-- `aes_wide::counters` meets its contract: the loops write r block by block. Assumes nothing.
use Rattle.std.proofs.Common.{◌+◌}
use Rattle.aes_wide.specs.Wide.{counter}
use Rattle.aes_wide.proofs.Laws.{Strands}
use Rattle.aes_wide.proofs.counters.Given as goal

abbrev pub invariant-loop-p : goal.invariant-loop-p
invariant-loop-p l = Strands l.r l.l l.p (λ b. counter (l.j + b))

abbrev pub invariant-loop-l : goal.invariant-loop-l
invariant-loop-l l = Strands l.r l.l 0 (λ b. counter (l.j + b))
