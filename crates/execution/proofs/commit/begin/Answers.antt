-- `commit::begin` meets its contract: document 01's hash inputs have no label, so what is fed is the input. Assumes nothing.
use mathlib.Core.List.{[]}
use Rattle.protocol.specs.Shares.{input}
use Rattle.execution.proofs.commit.begin.Goals as goal

pub returns : goal.returns
unfolding input
returns c = record { stands = λ body z fed. fed.stands [] c.new.ensures }
