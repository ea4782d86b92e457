-- The length of message 3. Assumes nothing.
use Rattle.std.proofs.Common.{◌+◌, ◌*◌, ◌-◌, sym, ap₂, ◌∙◌}
use Rattle.lists.specs.TestLaws.{clean}
use Rattle.protocol.proofs.Sizes.{message3_length}
use Rattle.prover.proofs.Laws.{inputs_of3}
use Rattle.message_3.proofs.InputsCall.size.Goals as goal

pub returns : goal.returns
returns c =
    λ K of good.
    let given = c.args.self.given in
    let g = inputs_of3 K _ _ _ _ (clean _ good) in
    message3_length K given.seeds.now given.secret.now given.e.now given.kappa.now g.seeds_long g.good
    ∙ sym (c.size_3.ensures.0 ∙ ap₂ (λ x y. 16 * x + 32 * (y - x) + 32) of.τ_is of.executions_is)
