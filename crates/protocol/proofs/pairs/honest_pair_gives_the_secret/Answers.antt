-- The theorem is that of `HonestPair`. Assumes nothing.
use Rattle.protocol.proofs.HonestPair.{honest_secret}
use Rattle.protocol.proofs.pairs.honest_pair_gives_the_secret.Goals as goal

pub returns : goal.returns
returns c = honest_secret
