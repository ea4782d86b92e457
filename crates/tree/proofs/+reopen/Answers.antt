use Rattle.std.proofs.Common.{sym, ◌∙◌, ap, arith, ◌≡◌, ◌*◌, ◌^◌, length, replicate}
use Rattle.tree.proofs.Laws.{node_pow, count_is, reopened_root, reopen_left_done, reopen_right_done}
use Rattle.tree.proofs.+reopen.Goals as goal

pub returns-then-depth-eq0 : goal.returns-then-depth-eq0
returns-then-depth-eq0 t c =
    let one : length c.args.out.now ≡ 16 = c.requires.out_len ∙ ap (λ d. 16 * 2 ^ d) c.if-depth-eq0.true in
    c.fill.ensures.after (λ y same. same) ∙ ap (λ n. replicate n 0) one ∙ sym (reopened_root c.args.depth c.args.h c.args.x.now c.if-depth-eq0.true)

pub reopen-requires : goal.reopen-requires
reopen-requires t c = let halves = node_pow c.args.depth c.if-depth-eq0.false in (omega arith, (omega arith, (omega arith, omega arith)))

pub leaves-requires-clause-out_len : goal.leaves-requires-clause-out_len
leaves-requires-clause-out_len t c = let halves = node_pow c.args.depth c.if-depth-eq0.false in omega arith

pub returns-then-h-count : goal.returns-then-h-count
returns-then-h-count t c =
    let parts = c.split_at.ensures in
    reopen_left_done c.args.depth c.args.h c.args.x.now c.split_at.result.0.now c.split_at.result.1.now c.reopen.new.out c.leaves.new.out _ c.if-depth-eq0.false
    (count_is c.args.depth (length c.args.out.now) c.if-depth-eq0.false c.requires.out_len)
    c.if-h-count.true
    parts.front
    parts.back
    c.reopen.ensures
    c.leaves.ensures

pub returns : goal.returns
returns t c =
    let parts = c.split_at-2.ensures in
    reopen_right_done c.args.depth c.args.h c.args.x.now c.split_at-2.result.0.now c.split_at-2.result.1.now c.leaves-2.new.out c.reopen-2.new.out _ c.if-depth-eq0.false
    (count_is c.args.depth (length c.args.out.now) c.if-depth-eq0.false c.requires.out_len)
    c.if-h-count.false
    parts.front
    parts.back
    c.leaves-2.ensures
    c.reopen-2.ensures
