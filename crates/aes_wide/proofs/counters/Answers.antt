use Rattle.std.proofs.Common.{◌+◌, ◌∙◌, ap, slice_index_or}
use Rattle.std.specs.Int.{to_be_bytes, w128}
use Rattle.aes_wide.proofs.Laws.{strand_more, strands_end, counter_bytes, counter_size}
use Rattle.aes_wide.proofs.counters.Goals as goal

pub loop-p-preserved : goal.loop-p-preserved
loop-p-preserved c =
    strand_more c.loop-p.invariant c.loop-l-test.true c.loop-p-test.true
    (ap (λ b. slice_index_or b c.loop-p.p 0) (c.to_be_bytes.ensures ∙ ap (to_be_bytes w128) c.from.ensures ∙ counter_bytes (c.args.j + c.loop-l.l)))

pub returns : goal.returns
returns c = strands_end c.loop-l.invariant c.loop-l-test.false (λ b. counter_size (c.args.j + b))
