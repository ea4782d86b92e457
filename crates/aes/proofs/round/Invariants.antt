-- `aes::round` meets its contract: the loop fills r in order, a column a turn. Assumes nothing.
use Rattle.std.proofs.Common.{◌+◌, ◌*◌, get_or, bit_xor}
use Rattle.lists.specs.Tab.{Filling}
use Rattle.aes.specs.Fips197.{sub_bytes, shift_rows, mix_columns}
use Rattle.aes.proofs.round.Given as goal

abbrev pub invariant-loop-c : goal.invariant-loop-c
invariant-loop-c l = Filling 16 l.r (4 * l.c) (λ k. bit_xor (get_or (mix_columns (shift_rows (sub_bytes l.s))) k 0) (get_or l.w (16 * l.n + k) 0))
