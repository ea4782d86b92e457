-- `sizes` by the numbers of the key. Assumes nothing.
use Rattle.std.proofs.Common.{refl}
use Rattle.protocol.specs.Transcript.{sizes}
use Rattle.transcript.proofs.sizes.Goals as goal

pub returns-clause-value : goal.returns-clause-value
unfolding sizes
returns-clause-value c = λ K of. rw (of.τ_is, of.executions_is) refl
