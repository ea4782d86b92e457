-- What the check leaves of `is_opened`. Assumes nothing.
use Rattle.std.proofs.Common.{◌≡◌, ◌+◌, ◌∙◌, rules, tests}
use Rattle.std.specs.List.{list_any}
use Rattle.std.proofs.lemmas.Iterator.{YieldsList-from_slice}
use Rattle.std.proofs.lemmas.Iterator.Search.{any_from_yields_List}
use lib.Dec.{eqb}
use Rattle.forms.proofs.Laws.{opened_any}
use Rattle.forms.proofs.is_opened.Goals as goal

pub returns : goal.returns
returns c =
    let xs = c.args.e.now in
    let e : c.any.result ≡ list_any (λ v. eqb v (c.args.x + 1)) xs = any_from_yields_List (λ v. eqb v (c.args.x + 1)) _ _ c.any.result c.any.ensures.ran (YieldsList-from_slice xs cc) (λ x b q k. search (rules, tests)) in
    e ∙ opened_any xs c.args.x
