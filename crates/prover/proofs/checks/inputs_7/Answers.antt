-- `inputs_7` tests the hidden list after message 5's inputs. Assumes nothing.
use Rattle.std.proofs.Common.{◌≡◌, sym, ap, ◌∙◌, refl, Err, rules}
use Rattle.refusals.specs.Refused.{verdict_of}
use Rattle.prover.proofs.Laws.{inputs7_5, inputs7_10, inputs7_none}
use Rattle.prover.proofs.checks.inputs_7.Goals as goal

pub returns-in_err-inputs_5 : goal.returns-in_err-inputs_5
returns-in_err-inputs_5 c =
    let is : c.from_residual.result ≡ Err c.in_err-inputs_5.field-0.0 = search rules in
    ap verdict_of is ∙ inputs7_5 _ _ _ _ _ _ _ c.in_err-inputs_5.ensures

pub returns-then-not-good_hidden : goal.returns-then-not-good_hidden
returns-then-not-good_hidden c =
    let of = c.requires.of in
    inputs7_10 _ _ _ _ _ _ _ (sym c.in_ok-inputs_5.ensures) (sym (c.good_hidden.ensures _ (rw (of.executions_is, of.τ_is) refl) (sym of.parties_is)) ∙ c.if-not-good_hidden.true)

pub returns : goal.returns
returns c =
    let of = c.requires.of in
    inputs7_none _ _ _ _ _ _ _ (sym c.in_ok-inputs_5.ensures) (sym (c.good_hidden.ensures _ (rw (of.executions_is, of.τ_is) refl) (sym of.parties_is)) ∙ c.if-not-good_hidden.false)
