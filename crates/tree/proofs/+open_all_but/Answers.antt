use Rattle.std.proofs.Common.{arith, ◌-◌}
use Rattle.tree.proofs.Laws.{shift_is, children, opening_root, open_left_done, open_right_done}
use Rattle.tree.proofs.+open_all_but.Goals as goal

pub returns-then-depth-eq0 : goal.returns-then-depth-eq0
returns-then-depth-eq0 t c = opening_root c.args.depth c.args.seed.now c.args.h c.args.out.now c.if-depth-eq0.true c.requires.out_len

pub returns-then-h-half : goal.returns-then-h-half
returns-then-h-half t c =
    let parts = c.split_at.ensures in
    let below = children c.args.seed.now c.children-x.result c.split_at.result.0.now c.split_at.result.1.now c.children-x.ensures parts.front parts.back in
    open_left_done c.args.depth c.args.seed.now c.args.h _ _ _ c.open_all_but.new.out c.copy_from_slice.new.self c.if-depth-eq0.false
    (shift_is (c.args.depth - 1) (omega arith))
    c.if-h-half.true
    below
    c.open_all_but.ensures
    c.copy_from_slice.ensures.after

pub returns : goal.returns
returns t c =
    let parts = c.split_at.ensures in
    let below = children c.args.seed.now c.children-x.result c.split_at.result.0.now c.split_at.result.1.now c.children-x.ensures parts.front parts.back in
    open_right_done c.args.depth c.args.seed.now c.args.h _ _ _ c.copy_from_slice-2.new.self c.open_all_but-2.new.out c.if-depth-eq0.false
    (shift_is (c.args.depth - 1) (omega arith))
    c.if-h-half.false
    below
    c.copy_from_slice-2.ensures.after
    c.open_all_but-2.ensures
