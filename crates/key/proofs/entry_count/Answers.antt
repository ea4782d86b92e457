-- `entry_count`: 32 rows of 129 numbers fit. Assumes nothing.
use native.Mathlib.Omega.{arith}
use mathlib.Core.Path.{refl}
use Rattle.key.specs.KeyLaws.{entries_most}
use Rattle.key.proofs.entry_count.Goals as goal

pub overflow_mul-result : goal.overflow_mul-result
overflow_mul-result c = omega (arith, entries_most _ _ c.requires.n_bound c.requires.m_bound)

pub returns : goal.returns
returns c = (refl, entries_most _ _ c.requires.n_bound c.requires.m_bound)
