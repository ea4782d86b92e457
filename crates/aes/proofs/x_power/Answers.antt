-- `aes::x_power` meets its contract, by a test of the ten powers. Assumes nothing.
use Rattle.std.proofs.Common.{get_or}
use Rattle.lists.specs.Test.{same}
use Rattle.gf.specs.Field.{product, remainder, gmul}
use Rattle.aes.specs.Fips197.{x_power}
use Rattle.aes.specs.declared.TheConstants.{POWERS}
use Rattle.aes.proofs.x_power.Goals as goal

pub returns : goal.returns
unfolding product remainder gmul x_power
returns c = same (λ j. get_or POWERS j 0) x_power 10 tt c.args.j c.requires
