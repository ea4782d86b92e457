-- `prepare::deal_opened` meets its contract. Assumes nothing.
use Rattle.execution.proofs.Dealt.{opened-dealt}
use Rattle.execution.proofs.prepare.deal_opened.Goals as goal

pub returns-clause-opened : goal.returns-clause-opened
returns-clause-opened c = opened-dealt c.told-master c.args.dealing.full c.leaves.ensures c.draw_shares.ensures.drawn c.deal_d.ensures
