-- `wrong_square`: what the search gives. Assumes nothing.
use Rattle.std.proofs.Common.{◌≡◌, true, false, rules, tests}
use Rattle.std.proofs.lemmas.Iterator.{first_from_Range}
use Rattle.reading.specs.Found.{is_wrong}
use Rattle.reading.proofs.Laws.{wrong_first}
use Rattle.reading.proofs.values.Values.wrong_square.Goals as goal

pub returns : goal.returns
returns c =
    let q = c.args.self.key.numbers.modulus.q in
    let m = c.args.self.key.numbers.m in
    let x = c.args.self.sums.now in
    wrong_first q m x c.find.result
    (first_from_Range _ _ _ _ (λ k. is_wrong q m x k ≡ true) (λ k. is_wrong q m x k ≡ false) c.find.ensures.ran
    (λ k p h. search (rules, tests))
    (λ k p h. search (rules, tests)))
