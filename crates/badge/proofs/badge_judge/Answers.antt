-- `badge_judge` meets its contract. Assumes nothing.
use mathlib.Core.Path.{◌∙◌}
use native.Mathlib.Omega.{arith}
use Rattle.badge.proofs.Laws.{judged}
use Rattle.badge.proofs.badge_judge.Goals as goal

pub returns : goal.returns
returns c = c.judge.ensures ∙ judged c.args.key.now c.args.run.now _ _ (omega arith) (omega arith)
