-- `aes_wide::sub_shift` meets its contract: the loops write r row by row. Assumes nothing.
use Rattle.aes.specs.Fips197.{sub_bytes, shift_rows}
use Rattle.aes_wide.specs.Wide.{lane}
use Rattle.aes_wide.proofs.Laws.{Rows}
use Rattle.aes_wide.proofs.sub_shift.Given as goal

abbrev pub invariant-loop-l : goal.invariant-loop-l
invariant-loop-l l = Rows l.r l.p l.l (λ k. shift_rows (sub_bytes (lane l.s k)))

abbrev pub invariant-loop-p : goal.invariant-loop-p
invariant-loop-p l = Rows l.r l.p 0 (λ k. shift_rows (sub_bytes (lane l.s k)))
