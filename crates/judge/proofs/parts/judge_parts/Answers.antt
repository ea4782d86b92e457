-- `judge_parts` meets its contract. Assumes nothing.
use mathlib.Core.Path.{◌≡◌, refl, sym, ap, ◌∙◌}
use borrow.Author.Rules.{rules}
use Rattle.std.specs.Prelude.{Err}
use Rattle.refusals.specs.Refused.{verdict_of}
use Rattle.transcript.specs.Seen.{seen}
use Rattle.judge.proofs.Laws.{form_is, form_refused, form_kept, stands_of, walk_refused, walk_lists, hash_verdict}
use Rattle.judge.proofs.parts.judge_parts.Goals as goal

pub returns-in_err-check_parts-clause-verdict : goal.returns-in_err-check_parts-clause-verdict
returns-in_err-check_parts-clause-verdict c =
    let is : c.from_residual.result ≡ Err c.in_err-check_parts.field-0.0 = search rules in
    ap verdict_of is ∙ sym (form_refused _ _ (form_is c.args.key.numbers c.args.key.entries.now (seen c.args.parts) c.in_err-check_parts.ensures))

pub returns-in_err-check_parts-clause-lists_after : goal.returns-in_err-check_parts-clause-lists_after
returns-in_err-check_parts-clause-lists_after c =
    form_kept _ _ _ (form_is c.args.key.numbers c.args.key.entries.now (seen c.args.parts) c.in_err-check_parts.ensures)

pub invariant_of-run-clause-stood : goal.invariant_of-run-clause-stood
invariant_of-run-clause-stood c = stands_of c.args.key.numbers c.args.key.entries.now (seen c.args.parts) c.in_ok-check_parts.ensures

pub returns-in_err-walk-clause-verdict : goal.returns-in_err-walk-clause-verdict
returns-in_err-walk-clause-verdict c =
    let is : c.from_residual-in_err-walk.result ≡ Err c.in_err-walk.field-0.0 = search rules in
    ap verdict_of is ∙ sym (walk_refused c.args.key.numbers c.args.key.entries.now (seen c.args.parts) c.in_ok-check_parts.ensures c.in_err-walk.ensures.walked refl)

pub returns-in_err-walk-clause-lists_after : goal.returns-in_err-walk-clause-lists_after
returns-in_err-walk-clause-lists_after c =
    walk_lists c.args.key.numbers c.args.key.entries.now (seen c.args.parts) c.in_ok-check_parts.ensures c.in_err-walk.ensures.walked

pub returns-clause-verdict : goal.returns-clause-verdict
returns-clause-verdict c =
    c.check_lists.ensures ∙ hash_verdict c.args.key.numbers c.args.key.entries.now (seen c.args.parts) c.in_ok-check_parts.ensures c.in_ok-walk.ensures.walked _ refl refl

pub returns-clause-lists_after : goal.returns-clause-lists_after
returns-clause-lists_after c =
    walk_lists c.args.key.numbers c.args.key.entries.now (seen c.args.parts) c.in_ok-check_parts.ensures c.in_ok-walk.ensures.walked
