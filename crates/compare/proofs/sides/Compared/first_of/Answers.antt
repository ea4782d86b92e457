-- `first_of`: what the search gives. Assumes nothing.
use Rattle.std.proofs.Common.{◌≡◌, ◌∙◌, sym, rules, tests}
use Rattle.std.specs.List.{find}
use Rattle.std.specs.Option.{option_map}
use Rattle.std.proofs.lemmas.Iterator.{YieldsList-from_slice}
use Rattle.std.proofs.lemmas.Iterator.Consumers.{YieldsList-from_copied}
use Rattle.std.proofs.lemmas.Iterator.Search.{find_from_yields_List}
use Rattle.compare.specs.Between.{differ_at}
use Rattle.compare.proofs.Laws.{found_first, same_spot}
use Rattle.compare.proofs.sides.Compared.first_of.Goals as goal

pub returns : goal.returns
returns c =
    let s = c.args.self in
    let e : option_map (λ r. r) c.find.result ≡ find (differ_at s) c.args.spots.now =
    find_from_yields_List (differ_at s) _ _ c.find.result c.find.ensures.ran (YieldsList-from_copied (YieldsList-from_slice c.args.spots.now (cc))) (λ r b q k. search (rules, tests)) in
    sym (same_spot c.find.result) ∙ e ∙ found_first s.one.lists.now s.two.lists.now s.one.inputs.now s.two.inputs.now c.args.spots.now
