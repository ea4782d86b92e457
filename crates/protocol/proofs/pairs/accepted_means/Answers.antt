-- Both directions are those of `Facts`. Assumes nothing.
use Rattle.protocol.proofs.Facts.{accepts, accepted_by}
use Rattle.protocol.proofs.pairs.accepted_means.Goals as goal

pub returns-clause-then_accepts : goal.returns-clause-then_accepts
returns-clause-then_accepts c = accepts

pub returns-clause-if_accepts : goal.returns-clause-if_accepts
returns-clause-if_accepts c = accepted_by
