-- What is fed makes the padded message.
use Rattle.std.proofs.Common.{◌∙◌}
use Rattle.sha.proofs.Laws.{padded, finish_is, be_eight}
use Rattle.sha.proofs.Sha.finish.Goals as goal

pub returns : goal.returns
returns c m w =
    finish_is c.update-2.new.self _ m _ (padded c.args.self.count m _ w.counted (c.to_be_bytes.ensures ∙ be_eight _)) c.digest.ensures
    (c.update-2.ensures.stands _ (c.update.ensures.stands m w))
