-- `sub` adds q where b is more than a. Assumes nothing.
use Rattle.std.proofs.Common.{arith}
use Rattle.numbers.proofs.Residue.{residue_sub, residue_sub_wrapped}
use Rattle.numbers.proofs.modulus.Modulus.sub.Goals as goal

pub returns-then-b-a : goal.returns-then-b-a
returns-then-b-a c = residue_sub (omega arith) (omega arith)

pub returns : goal.returns
returns c = residue_sub_wrapped (omega arith) (omega arith)
