-- `round` meets its contract. Assumes nothing.
use mathlib.Core.Path.{sym, ◌∙◌}
use Rattle.walk.proofs.Laws.{none_opened}
use Rattle.walk.proofs.round.round.Goals as goal

pub returns-then-is_opened-clause-verdict : goal.returns-then-is_opened-clause-verdict
returns-then-is_opened-clause-verdict c = λ K P so. none_opened so (c.requires.reached K P so) c.requires.e_lt_executions (sym c.is_opened.ensures ∙ c.if-is_opened.true)
