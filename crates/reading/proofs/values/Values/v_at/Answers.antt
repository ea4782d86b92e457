-- What the check leaves of `v_at`. Assumes nothing.
use Rattle.numbers.proofs.Inverse.{q_positive}
use Rattle.reading.proofs.Laws.{v_is}
use Rattle.reading.proofs.values.Values.v_at.Goals as goal

pub returns : goal.returns
returns c =
    v_is c.args.self.key.numbers.modulus.q c.args.self.key.numbers.m c.args.self.sums.now c.args.j (q_positive c.args.self.key.numbers.modulus.listed)
    (rw c.s-s.ensures at c.mul.ensures.is) (rw (c.from.ensures, c.s-s.ensures) at c.reduced.ensures.is) c.sub.ensures
