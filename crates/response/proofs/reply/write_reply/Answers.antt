-- `reply::write_reply` meets its contract. Assumes nothing.
use Rattle.std.proofs.Common.{rules, arith, ◌*◌, ◌∙◌, [], length-take-le}
use Rattle.views.proofs.Laws.{gamma_shown}
use Rattle.response.specs.Replies.{reply_of}
use Rattle.response.proofs.Laws.{three_parts}
use Rattle.response.proofs.reply.write_reply.Goals as goal

pub returns : goal.returns
unfolding reply_of
returns c =
    let a = c.args in
    three_parts a.out.now c.open_all_but.new.out c.copy_from_slice.new.self c.put_numbers.new.out (16 * a.dealing.depth) 32
    (c.open_all_but.auto.out ∙ length-take-le (16 * a.dealing.depth) a.out.now (omega (arith, c.requires.out_long)))
    (search rules) c.open_all_but.ensures (c.copy_from_slice.ensures.after ∙ (c.gamma_open-gamma.ensures ∙ gamma_shown a.dealing.m a.dealing.parties a.dealing.parties a.execution [] a.leaves.now a.work.now a.hidden (λ e. let no : ⊥ = omega (arith, e, c.requires.hidden_lt_parties) in no))) c.put_numbers.ensures
