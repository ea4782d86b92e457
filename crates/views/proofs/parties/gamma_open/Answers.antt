-- `parties::gamma_open` meets its contract. Assumes nothing.
use Rattle.std.proofs.Common.{rules, ◌∙◌}
use Rattle.sha.specs.State.{fed_join}
use Rattle.views.proofs.Laws.{gamma_is_open}
use Rattle.views.proofs.parties.gamma_open.Goals as goal

pub returns : goal.returns
returns c =
    let l = c.args.lists in
    c.finish.ensures _ (c.begin-s.ensures.stands _ _ (fed_join (fed_join c.update.ensures c.numbers.ensures) c.update-2.ensures))
    ∙ gamma_is_open l.m l.parties c.args.execution l.leaves.now l.work.now c.args.i (search rules) c.count_of-count.ensures c.block_of.ensures
