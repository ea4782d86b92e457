use Rattle.std.proofs.Common.{◌≡◌, refl, add-one, arith}
use Rattle.aes.specs.Fips197.{rounds, cipher}
use Rattle.aes.proofs.encrypt.Goals as goal

pub loop-n-init : goal.loop-n-init
unfolding rounds
loop-n-init c = refl

pub loop-n-preserved : goal.loop-n-preserved
unfolding rounds
loop-n-preserved c = let n = c.loop-n.n in rw (add-one n) (cc)

pub returns : goal.returns
unfolding cipher
returns c = let n = c.loop-n.n in let e : n ≡ 9 = omega arith in cc
