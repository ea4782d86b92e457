-- `gamma_inputs`: the first i parties' inputs are written. Assumes nothing.
use Rattle.std.specs.Prelude.{◌*◌}
use Rattle.lists.specs.Written.{Built}
use Rattle.inputs.specs.Steps.{gamma_in}
use Rattle.inputs.proofs.gamma_inputs.Given as goal

abbrev pub invariant-loop-i : goal.invariant-loop-i
invariant-loop-i l = Built (gamma_in l.m l.lists.parties l.execution l.lists.leaves.now l.lists.work.now) l.i (32 * l.i) l.initial.out l.out
