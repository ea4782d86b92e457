-- `given_count` by whether h is party N. Assumes nothing.
use Prim.Native.Nat.{ℕ, ◌+◌}
use mathlib.Core.Path.{sym, ap, ◌∙◌}
use native.Mathlib.Omega.{arith}
use Rattle.transcript.specs.Replies.{count-last, count_other}
use Rattle.transcript.proofs.given_count.Goals as goal

pub returns-then-h-k : goal.returns-then-h-k
returns-then-h-k c = (omega (arith, c.args.k.limits.m_most), λ K P x of e. ap (λ (m : ℕ). m + 1) of.m_is ∙ count-last K P x _ (omega (arith, c.args.k.limits.parties_least, of.parties_is)) e (c.if-h-k.true ∙ of.parties_is))

pub returns-else-h-k : goal.returns-else-h-k
returns-else-h-k c = (omega (arith, c.args.k.limits.m_most), λ K P x of e. omega (arith, of.m_is, count_other K P x _ (omega (arith, c.args.k.limits.parties_least, of.parties_is)) e (λ n. c.if-h-k.false (n ∙ sym of.parties_is))))
