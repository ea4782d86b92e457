use Rattle.aes.specs.Fips197.{sub_bytes, shift_rows}
use Rattle.aes_wide.specs.Wide.{lane}
use Rattle.aes_wide.proofs.Laws.{piece_more, pieces_end, key_size, last_value}
use Rattle.aes_wide.proofs.last_blocks.Goals as goal

pub loop-p-preserved : goal.loop-p-preserved
loop-p-preserved c =
    piece_more c.loop-p.invariant c.loop-l-test.true c.loop-p-test.true
    (last_value c.args.w.now c.args.s.now c.loop-p.p c.loop-l.l c.sub.result c.loop-p-test.true
    c.sub.ensures)

pub returns : goal.returns
returns c = pieces_end c.loop-l.invariant c.loop-l-test.false (λ m. key_size c.args.w.now (shift_rows (sub_bytes (lane c.args.s.now m))) 10)
