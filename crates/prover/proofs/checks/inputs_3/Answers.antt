-- `inputs_3` tests the lengths, then the statement. Assumes nothing.
use Rattle.protocol.specs.Key.{key_of}
use mathlib.Core.Path.{sym, ◌∙◌}
use mathlib.Core.List.{[]}
use Rattle.prover.proofs.Laws.{inputs3_6, inputs3_rest, secret_long}
use Rattle.prover.proofs.checks.inputs_3.Goals as goal

pub returns-then-not-sized : goal.returns-then-not-sized
returns-then-not-sized c =
    let a = c.args in
    let of = c.requires.of in
    inputs3_6 (key_of a.key.now) _ _ _ _ (sym (c.sized.ensures.is (key_of a.key.now) (sym of.m_is) (sym of.executions_is)) ∙ c.if-not-sized.true)

pub statement-requires-clause-secret_long : goal.statement-requires-clause-secret_long
statement-requires-clause-secret_long c =
    let a = c.args in
    let of = c.requires.of in
    secret_long (key_of a.key.now) a.given.seeds.now a.given.secret.now [] a.given.kappa.now (sym (c.sized.ensures.is (key_of a.key.now) (sym of.m_is) (sym of.executions_is)) ∙ c.if-not-sized.false) ∙ sym of.m_is

pub returns : goal.returns
returns c =
    let a = c.args in
    let of = c.requires.of in
    inputs3_rest (key_of a.key.now) _ _ _ _ (sym (c.sized.ensures.is (key_of a.key.now) (sym of.m_is) (sym of.executions_is)) ∙ c.if-not-sized.false) (c.statement.ensures _ _)
