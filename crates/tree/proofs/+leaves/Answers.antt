use Rattle.std.proofs.Common.{sym, ◌∙◌, arith}
use Rattle.tree.proofs.Laws.{node_pow, children, leaves_root, leaves_done}
use Rattle.tree.proofs.+leaves.Goals as goal

pub returns-then-depth-eq0 : goal.returns-then-depth-eq0
returns-then-depth-eq0 t c = c.copy_from_slice.ensures.after ∙ sym (leaves_root _ _ c.if-depth-eq0.true)

pub leaves-requires : goal.leaves-requires
leaves-requires t c = let halves = node_pow c.args.depth c.if-depth-eq0.false in (omega arith, (omega arith, omega arith))

pub leaves-requires-2 : goal.leaves-requires-2
leaves-requires-2 t c = let halves = node_pow c.args.depth c.if-depth-eq0.false in (omega arith, (omega arith, omega arith))

pub returns : goal.returns
returns t c =
    let parts = c.split_at.ensures in
    let below = children c.args.seed.now c.children-x.result c.split_at.result.0.now c.split_at.result.1.now c.children-x.ensures parts.front parts.back in
    leaves_done c.args.depth c.args.seed.now _ _ c.leaves.new.out c.leaves-2.new.out c.if-depth-eq0.false below c.leaves.ensures c.leaves-2.ensures
