-- `weights` meets its contract. Assumes nothing.
use Rattle.std.proofs.Common.{rules, arith, ◌∙◌}
use Rattle.outputs.proofs.weights.Goals as goal

pub returns : goal.returns
returns c =
    record {
      long = c.fill.ensures.long ∙ c.requires.out_long;
      within = omega arith;
      filled = λ k h. let value = c.fill.ensures.filled k (omega (arith, h, c.requires.out_long)) in search rules;
    }
