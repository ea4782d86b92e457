-- The theorem is that of `Demand3Witness`. Assumes nothing.
use Rattle.protocol.proofs.Demand3Witness.{honest-forked}
use Rattle.protocol.proofs.pairs.honest_transcripts_fork.Goals as goal

pub returns : goal.returns
returns c = honest-forked
