-- The theorem is that of `Witness`. Assumes nothing.
use Rattle.protocol.proofs.Witness.{premises_hold}
use Rattle.protocol.proofs.honest.honest_premises_hold.Goals as goal

pub returns : goal.returns
returns c = premises_hold
