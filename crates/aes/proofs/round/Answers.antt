use Rattle.std.proofs.Common.{◌≡◌, ◌∙◌, ◌+◌, ◌*◌, ◌<◌, arith}
use Rattle.lists.specs.Tab.{more, counted, done}
use Rattle.aes.specs.Fips197.{add_key}
use Rattle.aes.proofs.Laws.{column}
use Rattle.aes.proofs.round.Goals as goal

pub loop-c-preserved : goal.loop-c-preserved
loop-c-preserved c =
    let i = c.loop-c.c in
    let h : i < 4 = c.loop-c-test.true in
    let col =
    column c.args.s.now i c.sub-a.result c.sub-b.result c.sub-d.result c.sub-e.result h
    c.sub-a.ensures
    c.sub-b.ensures
    c.sub-d.ensures
    c.sub-e.ensures in
    let two : 4 * i + 1 + 1 ≡ 4 * i + 2 = omega arith in
    let three : 4 * i + 2 + 1 ≡ 4 * i + 3 = omega arith in
    let next : 4 * i + 3 + 1 ≡ 4 * (i + 1) = omega arith in
    counted next
    (more
    (counted three
    (more
    (counted two
    (more (more c.loop-c.invariant (omega arith) (rw (c.mix.ensures ∙ col.first))) (omega arith) (rw (c.mix-in-loop-c.ensures ∙ col.second))))
    (omega arith)
    (rw (c.mix-in-loop-c-2.ensures ∙ col.third))))
    (omega arith)
    (rw (c.mix-in-loop-c-3.ensures ∙ col.fourth)))

pub returns : goal.returns
unfolding add_key
returns c = done c.loop-c.invariant (omega arith)
