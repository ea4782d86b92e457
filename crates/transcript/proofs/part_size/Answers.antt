-- `part_size` takes one of the six lengths. Assumes nothing.
use Rattle.std.proofs.Common.{ap, List, ℕ, get_or}
use Rattle.transcript.proofs.part_size.Goals as goal

pub returns : goal.returns
returns c = (c.sizes.ensures.bound c.args.i, λ K of. ap (λ (l : List ℕ). get_or l c.args.i 0) (c.sizes.ensures.value K of))
