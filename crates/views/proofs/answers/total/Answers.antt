-- `answers::total` meets its contract. Assumes nothing.
use Rattle.std.specs.Prelude.{ℕ, ◌≡◌}
use Rattle.std.specs.List.{sum_by}
use Rattle.std.proofs.Common.{rules, ◌∙◌}
use Rattle.views.proofs.Laws.{sum_list}
use Rattle.views.proofs.answers.total.Goals as goal

pub returns : goal.returns
returns c =
    let e : c.sum.result ≡ sum_by (λ (x : ℕ). x) c.args.xs.now = search rules in
    e ∙ sum_list c.args.xs.now
