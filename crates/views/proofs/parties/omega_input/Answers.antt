-- `parties::omega_input` meets its contract. Assumes nothing.
use Rattle.std.proofs.Common.{rules, ◌∙◌}
use Rattle.views.proofs.Laws.{omega_written}
use Rattle.views.proofs.parties.omega_input.Goals as goal

pub returns : goal.returns
returns c =
    let l = c.args.lists in
    c.put_with_block.ensures ∙ omega_written l.m l.parties c.args.execution l.leaves.now l.work.now (search rules)
