-- `rising` by neighbours. Assumes nothing.
use Rattle.std.proofs.Common.{ltb, rules, tests}
use Rattle.std.proofs.lemmas.List.Sorted.{answers_always}
use Rattle.forms.proofs.Laws.{not_rising, rising_by}
use Rattle.forms.proofs.rising.Goals as goal

pub returns-then-positive : goal.returns-then-positive
returns-then-positive c = rising_by c.args.x.now _ c.positive.ensures c.if-positive.true (c.is_sorted_by.ensures.cases ltb (answers_always _ _ _ (λ f a r g k. search (rules, tests))))

pub returns-else-positive : goal.returns-else-positive
returns-else-positive c = not_rising c.args.x.now c.positive.ensures c.if-positive.false
