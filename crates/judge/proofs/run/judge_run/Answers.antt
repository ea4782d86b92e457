-- `judge_run` meets its contract. Assumes nothing.
use mathlib.Core.Path.{sym, ap, ◌∙◌}
use lib.ListN.{length}
use Rattle.lists.specs.Check.{first}
use Rattle.protocol.specs.Transcript.{Parts}
use Rattle.protocol.specs.Judge.{parts_checks}
use Rattle.key.specs.Numbers.{key_with, of_with}
use Rattle.judge.specs.Lists.{parts_lists}
use Rattle.judge.proofs.Runs.{header_bad, header_kept, third_long, fourth_long, header_good, header_lists}
use Rattle.judge.proofs.run.judge_run.Goals as goal

pub returns-then-not-good_header-clause-verdict : goal.returns-then-not-good_header-clause-verdict
returns-then-not-good_header-clause-verdict c =
    header_bad (key_with c.args.key.numbers c.args.key.entries.now) c.args.run.now (sym (c.good_header.ensures (key_with c.args.key.numbers c.args.key.entries.now) (of_with _ _)) ∙ c.if-not-good_header.true)

pub returns-then-not-good_header-clause-lists_after : goal.returns-then-not-good_header-clause-lists_after
returns-then-not-good_header-clause-lists_after c =
    header_kept (key_with c.args.key.numbers c.args.key.entries.now) c.args.run.now _ (sym (c.good_header.ensures (key_with c.args.key.numbers c.args.key.entries.now) (of_with _ _)) ∙ c.if-not-good_header.true)

pub judge_parts-requires-clause-p3_long : goal.judge_parts-requires-clause-p3_long
judge_parts-requires-clause-p3_long c =
    ap (λ (P : Parts). length P.p3) c.split.ensures ∙ third_long (key_with c.args.key.numbers c.args.key.entries.now) c.args.run.now (sym (c.good_header.ensures (key_with c.args.key.numbers c.args.key.entries.now) (of_with _ _)) ∙ c.if-not-good_header.false)

pub judge_parts-requires-clause-p4_long : goal.judge_parts-requires-clause-p4_long
judge_parts-requires-clause-p4_long c =
    ap (λ (P : Parts). length P.p4) c.split.ensures ∙ fourth_long (key_with c.args.key.numbers c.args.key.entries.now) c.args.run.now (sym (c.good_header.ensures (key_with c.args.key.numbers c.args.key.entries.now) (of_with _ _)) ∙ c.if-not-good_header.false)

pub returns-clause-verdict : goal.returns-clause-verdict
returns-clause-verdict c =
    header_good (key_with c.args.key.numbers c.args.key.entries.now) c.args.run.now (sym (c.good_header.ensures (key_with c.args.key.numbers c.args.key.entries.now) (of_with _ _)) ∙ c.if-not-good_header.false) (c.judge_parts.ensures.verdict ∙ ap (λ (P : Parts). first (parts_checks (key_with c.args.key.numbers c.args.key.entries.now) P)) c.split.ensures)

pub returns-clause-lists_after : goal.returns-clause-lists_after
returns-clause-lists_after c =
    header_lists (key_with c.args.key.numbers c.args.key.entries.now) c.args.run.now (sym (c.good_header.ensures (key_with c.args.key.numbers c.args.key.entries.now) (of_with _ _)) ∙ c.if-not-good_header.false) _ (c.judge_parts.ensures.lists_after ∙ ap (λ (P : Parts). parts_lists (key_with c.args.key.numbers c.args.key.entries.now) P c.args.lists.now) c.split.ensures)
