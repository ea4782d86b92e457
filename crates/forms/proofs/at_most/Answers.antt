-- What the check leaves of `at_most`. Assumes nothing.
use Rattle.std.proofs.Common.{◌≡◌, ◌∙◌, leb, rules, tests}
use Rattle.std.specs.List.{list_all}
use Rattle.std.proofs.lemmas.Iterator.{YieldsList-from_slice}
use Rattle.std.proofs.lemmas.Iterator.Search.{all_from_yields_List}
use Rattle.lists.proofs.Chains.{every_list}
use Rattle.forms.proofs.at_most.Goals as goal

pub returns : goal.returns
returns c =
    let xs = c.args.x.now in
    let e : c.all.result ≡ list_all (λ v. leb v c.args.top) xs = all_from_yields_List (λ v. leb v c.args.top) _ _ c.all.result c.all.ensures.ran (YieldsList-from_slice xs cc) (λ x b q k. search (rules, tests)) in
    e ∙ every_list (λ v. leb v c.args.top) xs
