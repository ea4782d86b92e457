-- `aes_wide::last_blocks` meets its contract: the loops write r block by block. Assumes nothing.
use Rattle.aes.specs.Fips197.{sub_bytes, shift_rows, add_key}
use Rattle.aes_wide.specs.Wide.{lane}
use Rattle.aes_wide.proofs.Laws.{Pieces}
use Rattle.aes_wide.proofs.last_blocks.Given as goal

abbrev pub invariant-loop-p : goal.invariant-loop-p
invariant-loop-p l = Pieces l.r l.l l.p (λ m. add_key l.w 10 (shift_rows (sub_bytes (lane l.s m))))

abbrev pub invariant-loop-l : goal.invariant-loop-l
invariant-loop-l l = Pieces l.r l.l 0 (λ m. add_key l.w 10 (shift_rows (sub_bytes (lane l.s m))))
