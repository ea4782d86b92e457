-- `parties::h_input` meets its contract. Assumes nothing.
use Rattle.std.proofs.Common.{◌*◌, ◌∙◌, ◌≡◌, arith}
use Rattle.lists.specs.Written.{built_all, built_at, built_item, built_none}
use Rattle.views.proofs.Laws.{h_label, within}
use Rattle.views.proofs.parties.h_input.Goals as goal

pub loop-i-init : goal.loop-i-init
loop-i-init c = built_none _ _

pub loop-i-preserved : goal.loop-i-preserved
loop-i-preserved c =
    let l = c.loop-i in
    built_at (omega arith) (built_item 32 _ l.invariant (c.copy_from_slice.ensures.after ∙ c.gamma_at-g.ensures) (c.copy_from_slice.auto.self ∙ within l.out (32 * l.i) 32 (omega arith)))

pub returns : goal.returns
returns c =
    let l = c.loop-i in
    let e : l.i ≡ c.args.lists.parties = omega arith in
    built_all l.invariant e (omega arith) ∙ h_label _ _
