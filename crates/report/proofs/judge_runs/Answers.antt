-- The name of a run is text, and each number that is stored is the judge's.
use Rattle.std.proofs.Common.{length-take-le, sym, ap, ◌∙◌, rules, arith}
use Rattle.refusals.specs.Number.{number_of}
use Rattle.report.proofs.Laws.{is_ok-from_utf8, name-utf8, none-judged, next-judged}
use Rattle.report.proofs.judge_runs.Goals as goal

pub loop-count-init : goal.loop-count-init
loop-count-init g c = (search rules, search rules, none-judged _ _)

pub unwrap-path-requires : goal.unwrap-path-requires
unwrap-path-requires g c = is_ok-from_utf8 _ _ _ c.from_utf8.ensures.cases (name-utf8 _ _ c.name-name.ensures (omega (arith, c.loop-count-test.true)))

pub loop-count-preserved : goal.loop-count-preserved
loop-count-preserved g c =
    let inv = c.loop-count.invariant in
    (search rules, search rules, next-judged _ inv.2 (omega (arith, inv.0, c.loop-count-test.true)) (c.verdict_code.ensures ∙ ap number_of c.badge_judge.ensures))

pub returns-clause-prefix_len : goal.returns-clause-prefix_len
returns-clause-prefix_len g c =
    let long = c.loop-count.invariant.0 in
    (omega (arith, long), sym (length-take-le 99 _ (omega (arith, long))))
