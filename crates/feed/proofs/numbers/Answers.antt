use Rattle.std.proofs.Common.{ℕ, List, [], ◌++◌, sym, ap, ◌∙◌, append_assoc, rules}
use Rattle.sha.specs.State.{fed_nil}
use Rattle.lists.specs.Bytes.{words}
use Rattle.feed.proofs.Laws.{fed_more}
use Rattle.feed.proofs.numbers.Goals as goal

pub loop-block-init : goal.loop-block-init
unfolding words
loop-block-init c = (search rules, ([], search rules, fed_nil _))

pub loop-block-preserved : goal.loop-block-preserved
loop-block-preserved c =
    let inv = c.loop-block.invariant in
    let steps = c.in-Some.ensures.steps in
    let p = inv.1.0 in
    let x : List ℕ = c.in-Some.block.now in (
      steps.0 ∙ inv.0,
      (p ++ x, inv.1.1 ∙ ap (λ (l : List ℕ). p ++ l) steps.1.0 ∙ sym (append_assoc p x _), fed_more p x _ c.put_numbers.ensures inv.1.2 c.update.ensures),
    )
