-- The theorem is that of `Acceptance`. Assumes nothing.
use Rattle.protocol.proofs.Acceptance.{honest_accepted}
use Rattle.protocol.proofs.honest.honest_acceptance.Goals as goal

pub returns : goal.returns
returns c = honest_accepted
