-- `answers::alpha_bytes` meets its contract. Assumes nothing.
use Rattle.std.proofs.Common.{ap, ◌∙◌, ◌%◌}
use Rattle.lists.specs.Bytes.{words}
use Rattle.lists.specs.CatLaws.{words-tab}
use Rattle.views.proofs.Laws.{sum-tab}
use Rattle.views.proofs.answers.alpha_bytes.Goals as goal

pub returns-clause-out_after : goal.returns-clause-out_after
returns-clause-out_after c = c.put_numbers.ensures ∙ (ap words c.alpha_row.ensures ∙ words-tab _ _)

pub returns-clause-value : goal.returns-clause-value
returns-clause-value c = c.reduced.ensures.is ∙ ap (λ x. x % c.args.shares.modulus.q) (c.total.ensures ∙ sum-tab _ _ _ c.alpha_row.ensures)
