-- `read` makes the five tests in their order; each arm's law gives the verdict. Assumes nothing.
use Rattle.std.proofs.Common.{sym}
use Rattle.key.specs.KeyLaws.{read_of}
use Rattle.key.proofs.Laws.{verdict_1, verdict_2, verdict_3, verdict_4, verdict_5, verdict_0, limits_read, of_begun}
use Rattle.key.proofs.read.Goals as goal

pub returns-then-key-lt24-clause-verdict : goal.returns-then-key-lt24-clause-verdict
returns-then-key-lt24-clause-verdict c = verdict_1 _ _ c.if-key-lt24.true

pub returns-then-not-is_modulus-clause-verdict : goal.returns-then-not-is_modulus-clause-verdict
returns-then-not-is_modulus-clause-verdict c = verdict_2 _ _ c.if-key-lt24.false c.front-six.ensures c.is_modulus.ensures c.if-not-is_modulus.true

pub returns-then-not-in_limits-clause-verdict : goal.returns-then-not-in_limits-clause-verdict
returns-then-not-in_limits-clause-verdict c =
    verdict_3 _ _ c.if-key-lt24.false c.front-six.ensures c.is_modulus.ensures c.if-not-is_modulus.false c.in_limits.ensures c.if-not-in_limits.true

pub carried-k-requires : goal.carried-k-requires
carried-k-requires c =
    limits_read _ _ c.if-key-lt24.false c.front-six.ensures c.is_modulus.ensures c.if-not-is_modulus.false c.in_limits.ensures c.if-not-in_limits.false

pub returns-then-key-entry_count-clause-verdict : goal.returns-then-key-entry_count-clause-verdict
returns-then-key-entry_count-clause-verdict c =
    verdict_4 _ _ c.if-key-lt24.false c.front-six.ensures c.is_modulus.ensures c.if-not-is_modulus.false c.in_limits.ensures c.if-not-in_limits.false
    _ c.carried-k.ensures c.entry_count.ensures.0 c.if-key-entry_count.true

pub returns-then-not-numbers_below-clause-verdict : goal.returns-then-not-numbers_below-clause-verdict
returns-then-not-numbers_below-clause-verdict c =
    verdict_5 _ _ c.if-key-lt24.false c.front-six.ensures c.is_modulus.ensures c.if-not-is_modulus.false c.in_limits.ensures c.if-not-in_limits.false
    _ c.carried-k.ensures c.entry_count.ensures.0 c.if-key-entry_count.false c.numbers_below.ensures c.if-not-numbers_below.true

pub returns-clause-verdict : goal.returns-clause-verdict
returns-clause-verdict c =
    verdict_0 _ _ c.if-key-lt24.false c.front-six.ensures c.is_modulus.ensures c.if-not-is_modulus.false c.in_limits.ensures c.if-not-in_limits.false
    _ c.carried-k.ensures c.entry_count.ensures.0 c.if-key-entry_count.false c.numbers_below.ensures c.if-not-numbers_below.false

pub returns-clause-read : goal.returns-clause-read
returns-clause-read c = read_of _ _ (sym (returns-clause-verdict c)) (of_begun _ _ c.front-six.ensures c.carried-k.ensures)
