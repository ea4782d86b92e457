-- `statement` tests E, the secret's entries and A·s = t in this order. Assumes nothing.
use mathlib.Core.Path.{sym, ◌∙◌}
use Rattle.prover.proofs.Laws.{statement_7, statement_8, statement_9, statement_none}
use Rattle.prover.proofs.checks.statement.Goals as goal

pub returns-then-not-good_opened : goal.returns-then-not-good_opened
returns-then-not-good_opened c =
    let p = c.requires in
    λ seeds κ. statement_7 _ seeds _ _ κ (sym (c.good_opened.ensures _ (sym p.read.of.τ_is) (sym p.read.of.executions_is)) ∙ c.if-not-good_opened.true)

pub returns-then-not-is_binary : goal.returns-then-not-is_binary
returns-then-not-is_binary c =
    let p = c.requires in
    λ seeds κ. statement_8 _ seeds _ _ κ (sym (c.good_opened.ensures _ (sym p.read.of.τ_is) (sym p.read.of.executions_is)) ∙ c.if-not-good_opened.false)
    (sym (c.is_binary.ensures _ (sym p.read.of.m_is ∙ sym p.secret_long)) ∙ c.if-not-is_binary.true)

pub returns-then-not-is_solution : goal.returns-then-not-is_solution
returns-then-not-is_solution c =
    let p = c.requires in
    λ seeds κ. statement_9 _ seeds _ _ κ (sym (c.good_opened.ensures _ (sym p.read.of.τ_is) (sym p.read.of.executions_is)) ∙ c.if-not-good_opened.false)
    (sym (c.is_binary.ensures _ (sym p.read.of.m_is ∙ sym p.secret_long)) ∙ c.if-not-is_binary.false)
    (sym c.is_solution.ensures ∙ c.if-not-is_solution.true)

pub returns : goal.returns
returns c =
    let p = c.requires in
    λ seeds κ. statement_none _ seeds _ _ κ (sym (c.good_opened.ensures _ (sym p.read.of.τ_is) (sym p.read.of.executions_is)) ∙ c.if-not-good_opened.false)
    (sym (c.is_binary.ensures _ (sym p.read.of.m_is ∙ sym p.secret_long)) ∙ c.if-not-is_binary.false)
    (sym c.is_solution.ensures ∙ c.if-not-is_solution.false)
