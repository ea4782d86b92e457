-- `reply::put_numbers` meets its contract. Assumes nothing.
use Rattle.std.proofs.Common.{arith, ap, ◌*◌, ◌∙◌, length, length-take-le}
use Rattle.lists.specs.CatLaws.{le4-length}
use Rattle.response.specs.Replies.{numbers_of}
use Rattle.response.proofs.Laws.{three_parts}
use Rattle.response.proofs.reply.put_numbers.Goals as goal

pub returns : goal.returns
unfolding numbers_of
returns c =
    let a = c.args in
    let output = c.put32.ensures in
    three_parts a.out.now c.put_alphas.new.out c.put32.new.out c.put_last.new.out (4 * a.shares.m) 4
    (c.put_alphas.auto.out ∙ length-take-le (4 * a.shares.m) a.out.now (omega (arith, c.requires.out_long)))
    (ap length output ∙ le4-length a.o) c.put_alphas.ensures output c.put_last.ensures
