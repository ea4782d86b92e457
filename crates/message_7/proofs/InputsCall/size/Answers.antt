-- The length of message 7. Assumes nothing.
use Rattle.std.proofs.Common.{sym, ◌∙◌}
use Rattle.lists.specs.TestLaws.{clean}
use Rattle.prover.proofs.Laws.{inputs_of7, count_7}
use Rattle.message_7.proofs.InputsCall.size.Goals as goal

pub returns : goal.returns
returns c =
    λ K of good.
    let given = c.args.self.given in
    let g = inputs_of7 K _ _ _ _ _ _ (clean _ good) in
    count_7 c.args.k K given.seeds.now given.secret.now given.e.now given.kappa.now c.args.self.seed.now c.args.self.hidden.now of g.0.good g.2 g.0.κ_long ∙ sym c.replies_length.ensures
