-- `aes::turned` meets its contract. Assumes nothing.
use Rattle.aes.proofs.Laws.{turned_word}
use Rattle.aes.proofs.turned.Goals as goal

pub returns : goal.returns
returns c =
    turned_word c.args.a c.args.j c.sub-4.result c.sub.result c.sub-2.result c.sub-3.result c.x_power.result c.sub-4.ensures c.sub.ensures
    c.sub-2.ensures
    c.sub-3.ensures
    c.x_power.ensures
