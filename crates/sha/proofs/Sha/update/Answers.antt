-- What the block has room for is fed, then the rest.
use Rattle.std.proofs.Common.{◌-◌, ◌%◌, arith}
use Rattle.sha.specs.State.{fed_join}
use Rattle.sha.proofs.Laws.{fed_parts}
use Rattle.sha.proofs.Sha.update.Goals as goal

pub returns : goal.returns
returns c = fed_parts _ _ c.args.d.now (64 - c.args.self.now.count % 64) (omega arith) (fed_join c.fill-2.ensures.fed c.aligned-2.ensures)
