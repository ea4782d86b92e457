-- `numbers_of` reads the six numbers; that the key is accepted gives the rest. Assumes nothing.
use Rattle.key.specs.KeyLaws.{key_long, limits_accepted, read_of}
use Rattle.key.proofs.Laws.{limits_begun, of_begun}
use Rattle.key.proofs.numbers_of.Goals as goal

pub front-requires : goal.front-requires
front-requires c = key_long _ c.requires

pub carried-requires : goal.carried-requires
carried-requires c = limits_begun _ _ c.front.ensures (limits_accepted _ c.requires)

pub returns : goal.returns
returns c = read_of _ _ c.requires (of_begun _ _ c.front.ensures c.carried.ensures)
