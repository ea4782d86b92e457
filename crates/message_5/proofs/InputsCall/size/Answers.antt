-- Message 5 has 32 bytes. Assumes nothing.
use Rattle.protocol.proofs.Sizes.{message5_length}
use Rattle.message_5.proofs.InputsCall.size.Goals as goal

pub returns : goal.returns
returns c =
    let given = c.args.self.given in
    λ K of good. message5_length K given.seeds.now given.secret.now given.e.now given.kappa.now c.args.self.seed.now
