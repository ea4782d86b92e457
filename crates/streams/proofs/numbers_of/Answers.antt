use Rattle.std.proofs.Common.{ℕ, ◌∙◌, ◌/◌, ◌%◌, ap, arith, length}
use Rattle.lists.specs.Tab.{more, done}
use Rattle.streams.proofs.Laws.{word_is}
use Rattle.streams.proofs.numbers_of.Goals as goal

pub loop-i-preserved : goal.loop-i-preserved
loop-i-preserved c =
    let x = c.args.x.now in
    let word = word_is x (length x / 8) c.loop-i.i c.as_chunks.ensures.front (omega arith) in
    more c.loop-i.invariant (omega arith) (c.reduced.ensures.is ∙ ap (λ (n : ℕ). n % c.args.modulus.q) (c.from_le_bytes.ensures ∙ word))

pub returns : goal.returns
returns c = done c.loop-i.invariant c.loop-i-test.false
