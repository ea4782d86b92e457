-- `are_bits`: what the chain gives. Assumes nothing.
use Rattle.std.proofs.Common.{◌≡◌, ◌∙◌, leb, rules, tests}
use Rattle.std.specs.List.{list_all}
use Rattle.std.proofs.lemmas.Iterator.{YieldsList-from_slice}
use Rattle.std.proofs.lemmas.Iterator.Search.{all_from_yields_List}
use Rattle.lists.proofs.Chains.{every_list}
use Rattle.reading.proofs.are_bits.Goals as goal

pub returns : goal.returns
returns c =
    let xs = c.args.xs.now in
    let e : c.all.result ≡ list_all (λ v. leb v 1) xs = all_from_yields_List (λ v. leb v 1) _ _ c.all.result c.all.ensures.ran (YieldsList-from_slice xs cc) (λ x b q k. search (rules, tests)) in
    e ∙ every_list (λ v. leb v 1) xs
