-- `prepare::deal` meets its contract. Assumes nothing.
use Rattle.numbers.proofs.Inverse.{q_positive}
use Rattle.execution.proofs.Dealt.{all_dealt, dealt_reduced}
use Rattle.execution.proofs.prepare.deal.Goals as goal

pub returns-clause-dealt : goal.returns-clause-dealt
returns-clause-dealt c = all_dealt c.told-master c.args.dealing.full c.leaves.ensures c.draw_shares.ensures.drawn c.deal_d.ensures c.deal_s.ensures

pub returns-clause-reduced : goal.returns-clause-reduced
returns-clause-reduced c =
    dealt_reduced c.args.secret.now (q_positive c.args.dealing.modulus.listed) c.draw_shares.ensures.drawn c.deal_d.ensures c.deal_s.ensures
