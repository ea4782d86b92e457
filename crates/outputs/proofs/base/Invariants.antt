-- `base`: acc is the residue of the first l terms β(l) t(l)/N. Assumes nothing.
use Rattle.std.specs.Prelude.{◌*◌, ◌%◌}
use Rattle.numbers.specs.Sum.{sum}
use Rattle.numbers.specs.Inverse.{inverse_of}
use Rattle.numbers.specs.Residue.{Residue}
use Rattle.outputs.specs.Steps.{at, target}
use Rattle.outputs.proofs.base.Given as goal

abbrev pub invariant-loop-l : goal.invariant-loop-l
invariant-loop-l l =
    let e = l.evaluation in
    Residue e.modulus.q (sum l.l (λ j. at l.betas j * (target e.n e.m e.entries.now j * inverse_of e.modulus.q e.parties)) % e.modulus.q) l.acc
