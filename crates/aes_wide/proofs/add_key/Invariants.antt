-- `aes_wide::add_key` meets its contract: the loops write r row by row. Assumes nothing.
use Rattle.aes.specs.Fips197.{add_key}
use Rattle.aes_wide.specs.Wide.{lane}
use Rattle.aes_wide.proofs.Laws.{Rows}
use Rattle.aes_wide.proofs.add_key.Given as goal

abbrev pub invariant-loop-l : goal.invariant-loop-l
invariant-loop-l l = Rows l.r l.p l.l (λ b. add_key l.w l.n (lane l.s b))

abbrev pub invariant-loop-p : goal.invariant-loop-p
invariant-loop-p l = Rows l.r l.p 0 (λ b. add_key l.w l.n (lane l.s b))
