-- `deal_masks` meets its contract. Assumes nothing.
use Rattle.numbers.proofs.Inverse.{q_positive}
use Rattle.masks.proofs.Laws.{all_masked, dealt_masks_reduced}
use Rattle.masks.proofs.deal_masks.Goals as goal

pub returns-clause-masked : goal.returns-clause-masked
returns-clause-masked c = all_masked c.told-master c.args.dealing.full c.leaves.ensures c.draw_masks.ensures.masks c.deal_s.ensures

pub returns-clause-reduced : goal.returns-clause-reduced
returns-clause-reduced c = dealt_masks_reduced c.args.secret.now (q_positive c.args.dealing.modulus.listed) c.draw_masks.ensures.masks c.deal_s.ensures
