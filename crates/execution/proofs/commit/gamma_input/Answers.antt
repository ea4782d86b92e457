-- `commit::gamma_input` meets its contract. Assumes nothing.
use Rattle.std.proofs.Common.{◌++◌, List, ℕ, ◌∙◌, ap₂}
use Rattle.lists.specs.Bytes.{words}
use Rattle.streams.specs.Streams.{block}
use Rattle.execution.proofs.Laws.{gamma_label}
use Rattle.execution.proofs.commit.gamma_input.Goals as goal

pub returns : goal.returns
returns c =
    let a = c.args in
    ap₂ (λ (x y : List ℕ). x ++ y) c.copy_from_slice.ensures.after c.put_with_block.ensures
    ∙ gamma_label _ _ a.seed.now (words a.d.now) (block a.seed.now 0)
