-- `row_sum` adds one product at a time. Invariant: acc is the sum before j modulo q. Assumes nothing.
use Rattle.std.proofs.Common.{◌≡◌, ◌*◌, ◌%◌, get_or}
use Rattle.lists.specs.Bytes.{num}
use Rattle.numbers.specs.Sum.{sum}
use Rattle.forms.proofs.row_sum.Given as goal

abbrev pub invariant-loop-j : goal.invariant-loop-j
invariant-loop-j l = l.acc ≡ sum l.j (λ i. num l.row i * get_or l.secret i 0) % l.modulus.q
