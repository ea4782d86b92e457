-- `place_of`: what the chain gives. Assumes nothing.
use Rattle.std.proofs.Common.{ℕ, Bool, ◌∙◌, not, arith, rules, tests}
use Rattle.std.specs.List.{range_with_len}
use Rattle.std.proofs.lemmas.Iterator.{YieldsList-from_range}
use Rattle.std.proofs.lemmas.Iterator.Consumers.{YieldsList-from_filter, count_from_yields_List}
use Rattle.std.proofs.lemmas.List.Sums.{length-filter}
use Rattle.protocol.specs.Prover.{opened}
use Rattle.fork.proofs.Laws.{counted_below}
use Rattle.fork.proofs.place_of.Goals as goal

pub returns : goal.returns
returns c =
    let kept : ℕ → Bool = λ j. not (opened c.args.p2.now j) in
    let e = c.args.e in
    count_from_yields_List _ _ c.count.ensures.ran (YieldsList-from_filter _ kept (YieldsList-from_range 0 e e (cc) (omega arith)) c.filter.ensures.closure (λ x r q k. search (rules, tests)))
    ∙ length-filter kept (range_with_len 0 e)
    ∙ counted_below c.args.p2.now e
