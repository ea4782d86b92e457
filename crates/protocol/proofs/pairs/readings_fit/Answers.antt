-- The theorem is that of `Fits`. Assumes nothing.
use Rattle.protocol.proofs.Fits.{readings_fit}
use Rattle.protocol.proofs.pairs.readings_fit.Goals as goal

pub returns : goal.returns
returns c = readings_fit
