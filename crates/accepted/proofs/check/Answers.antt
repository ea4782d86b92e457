-- `check` meets its contract. Assumes nothing.
use mathlib.Core.Path.{◌≡◌, sym, ap, ap₂, ◌∙◌}
use borrow.Author.Rules.{rules}
use Rattle.std.specs.Prelude.{Err}
use Rattle.lists.specs.Index.{same}
use Rattle.protocol.specs.Transcript.{Parts}
use Rattle.protocol.specs.Pair.{same_front}
use Rattle.protocol.proofs.Demand3.{is_accepted_lem}
use Rattle.refusals.specs.declared.Refusal.TheVariants.{FirstRun, SecondRun}
use Rattle.refusals.specs.Refused.{verdict_of}
use Rattle.key.specs.Numbers.{key_with, of_with}
use Rattle.fork.specs.Fork.{accepted_headed}
use Rattle.accepted.proofs.Laws.{accepted_by, first_refused, second_kept, second_lists_lem, second_refused, fronts_differ, hidden_equal, forks}
use Rattle.accepted.proofs.check.Goals as goal

pub returns-in_err-map_err-clause-verdict : goal.returns-in_err-map_err-clause-verdict
returns-in_err-map_err-clause-verdict c =
    let is : c.from_residual.result ≡ Err FirstRun = search rules in
    ap verdict_of is ∙ first_refused (key_with c.args.key.numbers c.args.key.entries.now) c.args.run1.now c.args.run2.now (accepted_by _ c.judge_run.ensures.verdict c.in_err-map_err.ensures.variant)

pub returns-in_err-map_err-clause-lists2_after : goal.returns-in_err-map_err-clause-lists2_after
returns-in_err-map_err-clause-lists2_after c =
    second_kept (key_with c.args.key.numbers c.args.key.entries.now) c.args.run1.now c.args.run2.now _ (accepted_by _ c.judge_run.ensures.verdict c.in_err-map_err.ensures.variant)

pub returns-in_err-map_err-2-clause-verdict : goal.returns-in_err-map_err-2-clause-verdict
returns-in_err-map_err-2-clause-verdict c =
    let is : c.from_residual-in_err-map_err-2.result ≡ Err SecondRun = search rules in
    ap verdict_of is ∙ second_refused (key_with c.args.key.numbers c.args.key.entries.now) c.args.run1.now c.args.run2.now (accepted_by _ c.judge_run.ensures.verdict c.in_ok-map_err.ensures.variant) (accepted_by _ c.judge_run-2.ensures.verdict c.in_err-map_err-2.ensures.variant)

pub returns-in_err-map_err-2-clause-lists2_after : goal.returns-in_err-map_err-2-clause-lists2_after
returns-in_err-map_err-2-clause-lists2_after c =
    second_lists_lem (key_with c.args.key.numbers c.args.key.entries.now) c.args.run1.now c.args.run2.now (accepted_by _ c.judge_run.ensures.verdict c.in_ok-map_err.ensures.variant) _ c.judge_run-2.ensures.lists_after

pub split-parts1-requires : goal.split-parts1-requires
split-parts1-requires c =
    (accepted_headed _ (key_with c.args.key.numbers c.args.key.entries.now) c.args.run1.now (of_with _ c.args.key.entries.now) (is_accepted_lem _ (accepted_by _ c.judge_run.ensures.verdict c.in_ok-map_err.ensures.variant))).good

pub split-parts2-requires : goal.split-parts2-requires
split-parts2-requires c =
    (accepted_headed _ (key_with c.args.key.numbers c.args.key.entries.now) c.args.run2.now (of_with _ c.args.key.entries.now) (is_accepted_lem _ (accepted_by _ c.judge_run-2.ensures.verdict c.in_ok-map_err-2.ensures.variant))).good

pub returns-then-not-same_front-clause-verdict : goal.returns-then-not-same_front-clause-verdict
returns-then-not-same_front-clause-verdict c =
    fronts_differ (key_with c.args.key.numbers c.args.key.entries.now) c.args.run1.now c.args.run2.now (accepted_by _ c.judge_run.ensures.verdict c.in_ok-map_err.ensures.variant) (accepted_by _ c.judge_run-2.ensures.verdict c.in_ok-map_err-2.ensures.variant) (sym (c.same_front.ensures (key_with c.args.key.numbers c.args.key.entries.now) ∙ ap₂ (λ (P R : Parts). same_front (key_with c.args.key.numbers c.args.key.entries.now) P R) c.split-parts1.ensures c.split-parts2.ensures) ∙ c.if-not-same_front.true)

pub returns-then-not-same_front-clause-lists2_after : goal.returns-then-not-same_front-clause-lists2_after
returns-then-not-same_front-clause-lists2_after c =
    second_lists_lem (key_with c.args.key.numbers c.args.key.entries.now) c.args.run1.now c.args.run2.now (accepted_by _ c.judge_run.ensures.verdict c.in_ok-map_err.ensures.variant) _ c.judge_run-2.ensures.lists_after

pub returns-then-same_hidden-clause-verdict : goal.returns-then-same_hidden-clause-verdict
returns-then-same_hidden-clause-verdict c =
    hidden_equal (key_with c.args.key.numbers c.args.key.entries.now) c.args.run1.now c.args.run2.now (accepted_by _ c.judge_run.ensures.verdict c.in_ok-map_err.ensures.variant) (accepted_by _ c.judge_run-2.ensures.verdict c.in_ok-map_err-2.ensures.variant) (sym (c.same_front.ensures (key_with c.args.key.numbers c.args.key.entries.now) ∙ ap₂ (λ (P R : Parts). same_front (key_with c.args.key.numbers c.args.key.entries.now) P R) c.split-parts1.ensures c.split-parts2.ensures) ∙ c.if-not-same_front.false) (sym (c.same_hidden.ensures ∙ ap₂ (λ (P R : Parts). same P.p6 R.p6) c.split-parts1.ensures c.split-parts2.ensures) ∙ c.if-same_hidden.true)

pub returns-then-same_hidden-clause-lists2_after : goal.returns-then-same_hidden-clause-lists2_after
returns-then-same_hidden-clause-lists2_after c =
    second_lists_lem (key_with c.args.key.numbers c.args.key.entries.now) c.args.run1.now c.args.run2.now (accepted_by _ c.judge_run.ensures.verdict c.in_ok-map_err.ensures.variant) _ c.judge_run-2.ensures.lists_after

pub returns-clause-verdict : goal.returns-clause-verdict
returns-clause-verdict c =
    forks (key_with c.args.key.numbers c.args.key.entries.now) c.args.run1.now c.args.run2.now (accepted_by _ c.judge_run.ensures.verdict c.in_ok-map_err.ensures.variant) (accepted_by _ c.judge_run-2.ensures.verdict c.in_ok-map_err-2.ensures.variant) (sym (c.same_front.ensures (key_with c.args.key.numbers c.args.key.entries.now) ∙ ap₂ (λ (P R : Parts). same_front (key_with c.args.key.numbers c.args.key.entries.now) P R) c.split-parts1.ensures c.split-parts2.ensures) ∙ c.if-not-same_front.false) (sym (c.same_hidden.ensures ∙ ap₂ (λ (P R : Parts). same P.p6 R.p6) c.split-parts1.ensures c.split-parts2.ensures) ∙ c.if-same_hidden.false)

pub returns-clause-lists2_after : goal.returns-clause-lists2_after
returns-clause-lists2_after c =
    second_lists_lem (key_with c.args.key.numbers c.args.key.entries.now) c.args.run1.now c.args.run2.now (accepted_by _ c.judge_run.ensures.verdict c.in_ok-map_err.ensures.variant) _ c.judge_run-2.ensures.lists_after
