-- `parties::h_input`: Γ of the first i parties is written. Assumes nothing.
use Rattle.std.specs.Prelude.{◌*◌}
use Rattle.lists.specs.Written.{Built}
use Rattle.views.specs.Seen.{gamma_at}
use Rattle.views.proofs.parties.h_input.Given as goal

abbrev pub invariant-loop-i : goal.invariant-loop-i
invariant-loop-i l = Built (gamma_at l.lists.m l.lists.parties l.hidden l.execution l.given l.lists.leaves.now l.lists.work.now) l.i (32 * l.i) l.initial.out l.out
