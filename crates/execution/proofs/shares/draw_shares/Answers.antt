-- `shares::draw_shares` meets its contract. Assumes nothing.
use Rattle.std.proofs.Common.{rules, ◌/◌, length}
use Rattle.execution.proofs.Laws.{drawn_hidden, drawn_next}
use Rattle.execution.proofs.shares.draw_shares.Goals as goal
use Rattle.execution.proofs.shares.draw_shares.Goals.{then-i-hidden, else-i-hidden}

pub loop-i-preserved : goal.loop-i-preserved
loop-i-preserved c = elim c.if-i-hidden.branch [
  | then-i-hidden w ↦ (rw w.work-is (drawn_next {k = length c.args.leaves.now / 16} (c.requires.per_bounds.0) (c.requires.per_bounds.1) (search rules) (search rules) w.draw_party.ensures c.loop-i.invariant.0), search rules)
  | else-i-hidden w ↦ (rw w.work-is (drawn_hidden w.if-i-hidden.false c.loop-i.invariant.0), search rules)
]
