-- `outputs`: the coefficients are those of the execution; base and weights first, then every party. Assumes nothing.
use Rattle.std.proofs.Common.{rules}
use Rattle.numbers.proofs.Inverse.{q_positive}
use Rattle.outputs.proofs.Laws.{answers, drawn_at}
use Rattle.outputs.proofs.outputs.Goals as goal

pub returns : goal.returns
returns c =
    let E = c.args.evaluation in
    answers _ _ _ _ _ _ c.args.alphas.now _ _ (q_positive E.modulus.listed) (search rules) c.requires.alphas_long (drawn_at _ _ _ _ _ _ c.coefficients.ensures) c.base.ensures c.weights.ensures c.outputs.ensures
