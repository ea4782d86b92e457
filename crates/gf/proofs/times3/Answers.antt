-- `gf::times3` meets its contract, by a test over all bytes. Assumes nothing.
use Rattle.std.proofs.Common.{rules, bit_xor}
use Rattle.lists.specs.Test.{same}
use Rattle.gf.specs.Field.{product, remainder, gmul}
use Rattle.gf.proofs.times3.Goals as goal

pub returns : goal.returns
unfolding product remainder gmul
returns c = rw c.xtime.ensures (same (λ a. bit_xor (gmul 2 a) a) (gmul 3) 256 tt c.args.a (search rules))
