-- By computation.
use Rattle.std.proofs.Common.{refl}
use Rattle.lists.specs.Index.{cat, count}
use Rattle.line.specs.Line.{decimal, line_of}
use Rattle.sheet.specs.Sheet.{name_of, run_line, totals, sheet_of}
use Rattle.sheet.specs.Cases.{one_empty_run, no_run}
use Rattle.sheet.proofs.cases.Goals as goal

pub returns : goal.returns
unfolding cat count decimal line_of name_of run_line totals sheet_of one_empty_run no_run
returns c = record { sheet_of_value = refl; sheet_of_value_2 = refl }
