-- `reply::output_of` meets its contract. Assumes nothing.
use Rattle.numbers.proofs.Inverse.{q_positive}
use Rattle.protocol.specs.Shares.{o}
use Rattle.response.proofs.Laws.{front_at, held-outputs}
use Rattle.response.proofs.reply.output_of.Goals as goal

pub returns : goal.returns
returns c K v so =
    let a = c.args in
    front_at a.evaluation.parties (o K v a.seed.now) c.dealt_outputs.new.outs _ a.party c.requires.party_lt_parties
    (held-outputs so (q_positive a.evaluation.modulus.listed) a.seed.now c.dealt_outputs.ensures)
