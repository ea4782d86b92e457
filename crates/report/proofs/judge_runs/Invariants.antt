-- The numbers so far are the judge's.
use Rattle.std.proofs.Common.{◌≡◌, length}
use Rattle.report.specs.Judged.{Judged}
use Rattle.report.proofs.judge_runs.Given as goal

abbrev pub invariant-loop-count : goal.invariant-loop-count
invariant-loop-count g l = (length l.verdicts ≡ 99) × (length l.run ≡ length l.initial.run) × Judged l.key l.count l.verdicts
