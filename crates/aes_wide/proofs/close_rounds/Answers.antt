-- `aes_wide::close_rounds` meets its contract: what differs after each of the first two rounds. Assumes nothing.
use Rattle.std.proofs.Common.{arith}
use Rattle.aes_wide.specs.Wide.{lane}
use Rattle.aes_wide.proofs.Laws.{no_rounds, one_round, flat_round}
use Rattle.aes_wide.proofs.close_rounds.Goals as goal

pub round-requires-clause-flat : goal.round-requires-clause-flat
round-requires-clause-flat c = λ p h outside. c.requires p (grind (arith, outside))

pub round-requires-2-clause-flat : goal.round-requires-2-clause-flat
round-requires-2-clause-flat c = λ p h outside. flat_round c.args.w.now c.args.u.now c.round.new.u 1 c.round.ensures c.requires p (grind (arith, outside)) h

pub returns : goal.returns
returns c =
    let w = c.args.w.now in
    let u = c.args.u.now in
    c.rounds_from.ensures (lane u)
    (one_round w c.round.new.u 1 (lane u) (one_round w u 0 (lane u) (no_rounds w u c.told-u) c.round.ensures) c.round-2.ensures)
