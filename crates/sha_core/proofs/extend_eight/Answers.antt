use Rattle.std.proofs.Common.{arith, rules}
use Rattle.sha_core.proofs.Laws.{more}
use Rattle.sha_core.proofs.extend_eight.Goals as goal

pub loop-j-preserved : goal.loop-j-preserved
loop-j-preserved c =
    let l = c.loop-j in
    (search rules, λ b h. more b _ _ _ (omega arith) (l.invariant.1 b h) (c.next.ensures b (l.invariant.1 b h)))
