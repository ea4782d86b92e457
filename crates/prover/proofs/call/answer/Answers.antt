-- `answer` refuses in order, or has the message written from the place on. Assumes nothing.
use Rattle.std.proofs.Common.{◌≡◌, ap, ◌∙◌, arith, rules, Err, length}
use Rattle.prover.specs.Answers.{said}
use Rattle.prover.proofs.Laws.{by_key, by_inputs, by_lent, has_room, all_written}
use Rattle.prover.proofs.call.answer.Goals as goal

pub returns-in_err-k-clause-value : goal.returns-in_err-k-clause-value
returns-in_err-k-clause-value g c =
    let is : c.from_residual.result ≡ Err c.in_err-k.field-0.0 = search rules in
    ap said is ∙ (by_key (g.C.Call.checks c.args.call) (g.C.Call.message c.args.call) c.args.key.now c.args.out.now c.args.place (length c.args.work.now) (length c.args.entries.now) c.in_err-k.ensures.verdict).0

pub returns-in_err-k-clause-out_after : goal.returns-in_err-k-clause-out_after
returns-in_err-k-clause-out_after g c =
    (by_key (g.C.Call.checks c.args.call) (g.C.Call.message c.args.call) c.args.key.now c.args.out.now c.args.place (length c.args.work.now) (length c.args.entries.now) c.in_err-k.ensures.verdict).1

pub returns-in_err-check-clause-value : goal.returns-in_err-check-clause-value
returns-in_err-check-clause-value g c =
    let is : c.from_residual-in_err-check.result ≡ Err c.in_err-check.field-0.0 = search rules in
    ap said is ∙ (by_inputs (g.C.Call.checks c.args.call) (g.C.Call.message c.args.call) c.args.key.now c.args.out.now c.args.place (length c.args.work.now) (length c.args.entries.now) c.in_ok-k.ensures.verdict c.in_err-check.ensures).0

pub returns-in_err-check-clause-out_after : goal.returns-in_err-check-clause-out_after
returns-in_err-check-clause-out_after g c =
    (by_inputs (g.C.Call.checks c.args.call) (g.C.Call.message c.args.call) c.args.key.now c.args.out.now c.args.place (length c.args.work.now) (length c.args.entries.now) c.in_ok-k.ensures.verdict c.in_err-check.ensures).1

pub returns-in_err-check-2-clause-value : goal.returns-in_err-check-2-clause-value
returns-in_err-check-2-clause-value g c =
    let is : c.from_residual-in_err-check-2.result ≡ Err c.in_err-check-2.field-0.0 = search rules in
    ap said is ∙ (by_lent (g.C.Call.checks c.args.call) (g.C.Call.message c.args.call) c.args.key.now c.args.out.now c.args.place (length c.args.work.now) (length c.args.entries.now) c.in_ok-k.ensures.read.of c.size-count.ensures c.in_ok-k.ensures.verdict c.in_ok-check.ensures c.in_err-check-2.ensures).0

pub returns-in_err-check-2-clause-out_after : goal.returns-in_err-check-2-clause-out_after
returns-in_err-check-2-clause-out_after g c = (by_lent (g.C.Call.checks c.args.call) (g.C.Call.message c.args.call) c.args.key.now c.args.out.now c.args.place (length c.args.work.now) (length c.args.entries.now) c.in_ok-k.ensures.read.of c.size-count.ensures c.in_ok-k.ensures.verdict c.in_ok-check.ensures c.in_err-check-2.ensures).1

pub overflow_add-place : goal.overflow_add-place
overflow_add-place g c = omega (arith, (has_room (g.C.Call.checks c.args.call) (g.C.Call.message c.args.call) c.args.key.now c.args.out.now c.args.place (length c.args.work.now) (length c.args.entries.now) c.in_ok-k.ensures.read.of c.size-count.ensures c.in_ok-k.ensures.verdict c.in_ok-check.ensures c.in_ok-check-2.ensures).0)

pub slice_bounds-write-end : goal.slice_bounds-write-end
slice_bounds-write-end g c = omega (arith, (has_room (g.C.Call.checks c.args.call) (g.C.Call.message c.args.call) c.args.key.now c.args.out.now c.args.place (length c.args.work.now) (length c.args.entries.now) c.in_ok-k.ensures.read.of c.size-count.ensures c.in_ok-k.ensures.verdict c.in_ok-check.ensures c.in_ok-check-2.ensures).0)

pub write-requires-clause-entries_long : goal.write-requires-clause-entries_long
write-requires-clause-entries_long g c = (has_room (g.C.Call.checks c.args.call) (g.C.Call.message c.args.call) c.args.key.now c.args.out.now c.args.place (length c.args.work.now) (length c.args.entries.now) c.in_ok-k.ensures.read.of c.size-count.ensures c.in_ok-k.ensures.verdict c.in_ok-check.ensures c.in_ok-check-2.ensures).1

pub write-requires-clause-work_long : goal.write-requires-clause-work_long
write-requires-clause-work_long g c = (has_room (g.C.Call.checks c.args.call) (g.C.Call.message c.args.call) c.args.key.now c.args.out.now c.args.place (length c.args.work.now) (length c.args.entries.now) c.in_ok-k.ensures.read.of c.size-count.ensures c.in_ok-k.ensures.verdict c.in_ok-check.ensures c.in_ok-check-2.ensures).2

pub returns-clause-value : goal.returns-clause-value
returns-clause-value g c = (all_written (g.C.Call.checks c.args.call) (g.C.Call.message c.args.call) c.args.key.now c.args.out.now c.args.place (length c.args.work.now) (length c.args.entries.now) c.in_ok-k.ensures.read.of c.size-count.ensures c.in_ok-k.ensures.verdict c.in_ok-check.ensures c.in_ok-check-2.ensures c.write.ensures).0

pub returns-clause-out_after : goal.returns-clause-out_after
returns-clause-out_after g c = (all_written (g.C.Call.checks c.args.call) (g.C.Call.message c.args.call) c.args.key.now c.args.out.now c.args.place (length c.args.work.now) (length c.args.entries.now) c.in_ok-k.ensures.read.of c.size-count.ensures c.in_ok-k.ensures.verdict c.in_ok-check.ensures c.in_ok-check-2.ensures c.write.ensures).1
