use Rattle.std.proofs.Common.{◌≡◌, ◌∙◌, eqb, ltb, length, arith, rules}
use Rattle.std.specs.List.{count_by}
use Rattle.sheet.proofs.Laws.{next_run, sheet_written, counted_by}
use Rattle.sheet.proofs.write.Goals as goal

pub loop-i-preserved : goal.loop-i-preserved
loop-i-preserved c =
    let l = c.loop-i in
    let run = c.put_run-at.ensures in
    (next_run c.args.verdicts.now l.invariant.0 run.puts, omega (arith, l.invariant.1, run.upper_bound), search rules)

pub returns : goal.returns
returns c =
    let v = c.args.verdicts.now in
    let all : c.loop-i.i ≡ length v = search rules in
    let accepted : c.count-accepted.result ≡ count_by (λ n. eqb n 0) v = search rules in
    let refused : c.count-refused.result ≡ count_by (λ n. ltb 0 n) v = search rules in
    let lines = sheet_written v c.loop-i.invariant.0 all c.put_totals.ensures (accepted ∙ counted_by _ v) (refused ∙ counted_by _ v) in
    record { value = lines.0; out_after = lines.1.0; upper_bound = lines.1.1 }
