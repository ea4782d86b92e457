-- `gf::xtime` meets its contract, by a test over all bytes. Assumes nothing.
use Rattle.std.proofs.Common.{◌*◌, ◌/◌, ◌%◌, rules, bit_xor}
use Rattle.lists.specs.Test.{same}
use Rattle.gf.specs.Field.{product, remainder, gmul}
use Rattle.gf.proofs.xtime.Goals as goal

pub returns : goal.returns
unfolding product remainder gmul
returns c =
    same (λ a. bit_xor (a * 2 % 256) (bit_xor (bit_xor (a / 128) (a / 128 * 2 % 256)) (bit_xor (a / 128) (a / 128 * 2 % 256) * 8 % 256))) (gmul 2) 256 tt
    c.args.a (search rules)
