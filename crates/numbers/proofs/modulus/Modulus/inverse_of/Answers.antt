-- `inverse_of` has the two cases of its definition. Assumes nothing.
use Rattle.numbers.proofs.Residue.{inverse_plus, inverse-minus}
use Rattle.numbers.proofs.modulus.Modulus.inverse_of.Goals as goal

pub returns-then-self-n-eq1 : goal.returns-then-self-n-eq1
returns-then-self-n-eq1 c = inverse_plus c.args.self.listed c.requires c.if-self-n-eq1.true

pub returns : goal.returns
returns c = inverse-minus c.args.self.listed c.requires c.if-self-n-eq1.false
