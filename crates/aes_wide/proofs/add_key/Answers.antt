use Rattle.aes_wide.specs.Wide.{lane}
use Rattle.aes_wide.proofs.Laws.{row_more, rows_end, key_size, key_value}
use Rattle.aes_wide.proofs.add_key.Goals as goal

pub loop-l-preserved : goal.loop-l-preserved
loop-l-preserved c =
    row_more c.loop-l.invariant c.loop-p-test.true c.loop-l-test.true
    (key_value c.args.w.now c.args.s.now c.args.n c.loop-p.p c.loop-l.l c.loop-p-test.true)

pub returns : goal.returns
returns c = rows_end c.loop-p.invariant c.loop-p-test.false (λ b. key_size c.args.w.now (lane c.args.s.now b) c.args.n)
