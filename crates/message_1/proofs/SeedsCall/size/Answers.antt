-- Message 1 has 32 bytes. Assumes nothing.
use Rattle.protocol.proofs.Sizes.{message1-length}
use Rattle.message_1.proofs.SeedsCall.size.Goals as goal

pub returns : goal.returns
returns c = λ K of good. message1-length K c.args.self.seeds.now
