-- `draw_row` meets its contract. Assumes nothing.
use Rattle.std.proofs.Common.{rules, arith, ◌+◌, ◌*◌}
use Rattle.masks.proofs.Laws.{put_zeros, row_last, row_other}
use Rattle.masks.proofs.draw_row.Goals as goal

pub returns-then-i-sharing : goal.returns-then-i-sharing
returns-then-i-sharing c =
    row_other c.draw.ensures (put_zeros _ _ (3 * c.args.sharing.m * c.args.i + c.args.sharing.m) c.args.sharing.m _ (search rules) (omega arith) (c.fill.ensures.after (λ _ e. e))) c.draw-then-i-sharing.ensures

pub returns-else-i-sharing : goal.returns-else-i-sharing
returns-else-i-sharing c =
    row_last c.draw.ensures (put_zeros _ _ (3 * c.args.sharing.m * c.args.i + c.args.sharing.m) c.args.sharing.m _ (search rules) (omega arith) (c.fill.ensures.after (λ _ e. e))) (omega arith)
