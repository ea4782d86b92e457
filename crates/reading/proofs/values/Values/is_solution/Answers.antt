-- `is_solution`: what the chain gives. Assumes nothing.
use Rattle.std.proofs.Common.{◌≡◌, refl, ◌∙◌, arith, rules, tests}
use Rattle.std.specs.List.{list_all, range_with_len}
use Rattle.std.proofs.lemmas.Iterator.{YieldsList-from_range}
use Rattle.std.proofs.lemmas.Iterator.Search.{all_from_yields_List}
use Rattle.reading.specs.Keyed.{keyed}
use Rattle.reading.proofs.Laws.{is_row, rows_all}
use Rattle.reading.proofs.values.Values.is_solution.Goals as goal

pub returns : goal.returns
returns c =
    let K = keyed c.args.self in
    let x = c.args.self.sums.now in
    let e : c.all.result ≡ list_all (is_row K x) (range_with_len 0 K.n) = all_from_yields_List (is_row K x) _ _ c.all.result c.all.ensures.ran (YieldsList-from_range 0 K.n K.n refl (omega arith)) (λ l b q k. search (rules, tests)) in
    e ∙ rows_all K x
