-- The theorem is that of `Demand3`. Assumes nothing.
use Rattle.protocol.proofs.Demand3.{demand_3}
use Rattle.protocol.proofs.pairs.demand_3.Goals as goal

pub returns : goal.returns
returns c = demand_3
