-- `is_binary` is `at_most` 1. Assumes nothing.
use Rattle.forms.proofs.Laws.{binary_of}
use Rattle.forms.proofs.is_binary.Goals as goal

pub returns : goal.returns
returns c = λ K e. binary_of K c.args.secret.now e c.at_most.ensures
