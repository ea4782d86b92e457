-- What the check leaves of `u_at`. Assumes nothing.
use Rattle.numbers.proofs.Inverse.{q_positive}
use Rattle.reading.specs.Keyed.{keyed}
use Rattle.reading.proofs.Laws.{u_is}
use Rattle.reading.proofs.values.Values.u_at.Goals as goal

pub returns : goal.returns
returns c =
    u_is (keyed c.args.self) c.args.self.sums.now c.args.l (q_positive c.args.self.key.numbers.modulus.listed) (rw (c.from.ensures, c.t.ensures) at c.reduced.ensures.is)
    c.row.ensures.is c.sub.ensures
