-- `output` meets its contract. Assumes nothing.
use Rattle.outputs.proofs.Laws.{shown_given, shown_open}
use Rattle.outputs.proofs.columns.Columns.output.Goals as goal

pub returns-then-i-self : goal.returns-then-i-self
returns-then-i-self c = shown_given _ _ _ _ _ _ _ _ _ _ c.if-i-self.true

pub returns : goal.returns
returns c = shown_open _ _ _ _ _ _ _ _ _ _ c.if-i-self.false c.open_output.ensures
