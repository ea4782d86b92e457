-- `write` copies hΓ. Assumes nothing.
use Rattle.std.proofs.Common.{sym, ap, ◌∙◌, ◌*◌}
use Rattle.lists.specs.TestLaws.{clean}
use Rattle.protocol.specs.Key.{key_of}
use Rattle.prover.proofs.Laws.{seeds_long}
use Rattle.message_1.proofs.SeedsCall.write.Goals as goal

pub h_gamma-requires-clause-seeds_long : goal.h_gamma-requires-clause-seeds_long
h_gamma-requires-clause-seeds_long c =
    seeds_long (key_of c.args.key.now) c.args.self.seeds.now (clean _ c.requires.inputs_good) ∙ ap (λ n. 16 * n) (sym c.requires.read.of.executions_is)
