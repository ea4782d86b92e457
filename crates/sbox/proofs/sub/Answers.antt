-- `sbox::sub` meets its contract: the table is computed once, at all 256 entries. Assumes nothing.
use Rattle.std.proofs.Common.{◌≡◌, refl, ◌∙◌, ap, rules, get_or}
use Rattle.lists.specs.Tab.{tab, tab-at}
use Rattle.gf.specs.Field.{product, remainder, gmul, squares, inverse}
use Rattle.sbox.specs.Sbox.{bit, from_bits, affine_bit, affine, sbox_of}
use Rattle.sbox.specs.declared.TheConstants.{SBOX}
use Rattle.sbox.proofs.sub.Goals as goal

table : SBOX ≡ tab 256 sbox_of
unfolding tab product remainder gmul squares inverse bit from_bits affine_bit affine sbox_of
table = refl

pub returns : goal.returns
returns c = ap (λ s. get_or s c.args.x 0) table ∙ tab-at 256 sbox_of c.args.x (search rules)
