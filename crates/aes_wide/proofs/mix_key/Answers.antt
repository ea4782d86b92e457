use Rattle.aes.specs.Fips197.{mix_columns}
use Rattle.aes_wide.specs.Wide.{lane}
use Rattle.aes_wide.proofs.Laws.{columns_end, column-more, key_size}
use Rattle.aes_wide.proofs.mix_key.Goals as goal

pub loop-l-preserved : goal.loop-l-preserved
loop-l-preserved c =
    column-more c.args.w.now c.args.s.now c.loop-l.r c.args.n c.loop-c.c c.loop-l.l
    c.mix.result
    c.mix-in-loop-l.result
    c.mix-in-loop-l-2.result
    c.mix-in-loop-l-3.result
    c.loop-c-test.true
    c.loop-l-test.true
    c.mix.ensures
    c.mix-in-loop-l.ensures
    c.mix-in-loop-l-2.ensures
    c.mix-in-loop-l-3.ensures
    c.loop-l.invariant

pub returns : goal.returns
returns c = columns_end c.loop-c.invariant c.loop-c-test.false (λ b. key_size c.args.w.now (mix_columns (lane c.args.s.now b)) c.args.n)
