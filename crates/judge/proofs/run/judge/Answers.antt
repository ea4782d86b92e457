-- `judge` meets its contract. Assumes nothing.
use mathlib.Core.Path.{◌≡◌, sym, ap, ◌∙◌}
use native.Mathlib.Omega.{arith}
use lib.ListN.{length, drop}
use borrow.Author.Rules.{rules}
use Rattle.std.specs.Prelude.{Err}
use Rattle.refusals.specs.Refused.{verdict_of}
use Rattle.protocol.specs.Key.{entries, key_of}
use Rattle.judge.proofs.Runs.{key_refused, room_refused, run_verdict, work_short, entries_short, room-enough, key_with_lem, verdict_with}
use Rattle.judge.proofs.run.judge.Goals as goal

pub returns-in_err-numbers : goal.returns-in_err-numbers
returns-in_err-numbers c =
    let is : c.from_residual.result ≡ Err c.in_err-numbers.field-0.0 = search rules in
    ap verdict_of is ∙ sym (key_refused c.args.key.now c.args.run.now (length c.args.work.now) (length c.args.entries.now) (sym c.in_err-numbers.ensures.verdict))

pub returns-then-work-numbers : goal.returns-then-work-numbers
returns-then-work-numbers c =
    room_refused c.args.key.now c.args.run.now (length c.args.work.now) (length c.args.entries.now) (sym c.in_ok-numbers.ensures.verdict) (work_short c.args.key.now c.in_ok-numbers.numbers c.in_ok-numbers.ensures.read (length c.args.entries.now) c.if-work-numbers.true)

pub returns-then-entries-count : goal.returns-then-entries-count
returns-then-entries-count c =
    room_refused c.args.key.now c.args.run.now (length c.args.work.now) (length c.args.entries.now) (sym c.in_ok-numbers.ensures.verdict) (entries_short c.args.key.now c.in_ok-numbers.numbers c.in_ok-numbers.ensures.read (length c.args.work.now) (omega (arith, c.if-entries-count.true, c.entry_count-count.ensures.0)))

pub returns : goal.returns
returns c =
    run_verdict c.args.key.now c.args.run.now (length c.args.work.now) (length c.args.entries.now) (sym c.in_ok-numbers.ensures.verdict) (room-enough c.args.key.now c.in_ok-numbers.numbers c.in_ok-numbers.ensures.read c.if-work-numbers.false (omega (arith, c.if-entries-count.false, c.entry_count-count.ensures.0)))
    (verdict_with c.args.key.now c.in_ok-numbers.numbers c.in_ok-numbers.ensures.read c.args.run.now (key_with_lem c.args.key.now c.in_ok-numbers.numbers c.in_ok-numbers.ensures.read (drop (entries (key_of c.args.key.now)) c.args.entries.now) c.entry_count-count.ensures.0 c.entries.ensures) c.judge_run.ensures.verdict)
