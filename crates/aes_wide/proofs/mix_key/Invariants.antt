-- `aes_wide::mix_key` meets its contract: the loops write r column by column, a block of it a turn. Assumes nothing.
use Rattle.aes.specs.Fips197.{mix_columns, add_key}
use Rattle.aes_wide.specs.Wide.{lane}
use Rattle.aes_wide.proofs.Laws.{Columns}
use Rattle.aes_wide.proofs.mix_key.Given as goal

abbrev pub invariant-loop-l : goal.invariant-loop-l
invariant-loop-l l = Columns l.r l.c l.l (λ b. add_key l.w l.n (mix_columns (lane l.s b)))

abbrev pub invariant-loop-c : goal.invariant-loop-c
invariant-loop-c l = Columns l.r l.c 0 (λ b. add_key l.w l.n (mix_columns (lane l.s b)))
