-- `streams::from_block` meets its contract: block l is that of counter j + l. Assumes nothing.
use Rattle.std.proofs.Common.{◌∙◌, length}
use Rattle.streams.proofs.Laws.{lane-numbers}
use Rattle.streams.proofs.from_block.Goals as goal

pub returns : goal.returns
returns c =
    c.numbers_of.ensures
    ∙ lane-numbers c.args.w.now _ c.args.j c.args.modulus.q (length c.args.out.now) c.requires.out_len_bound c.counter_blocks.ensures
