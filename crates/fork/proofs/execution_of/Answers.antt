-- `execution_of`: what the search gives. Assumes nothing.
use Rattle.std.proofs.Common.{◌≡◌, true, false, rules, tests}
use Rattle.std.proofs.lemmas.Iterator.{first_from_Range}
use Rattle.fork.specs.Fork.{differs}
use Rattle.fork.proofs.Laws.{first_fork, first_bound}
use Rattle.fork.proofs.execution_of.Goals as goal

pub returns : goal.returns
returns c =
    let E = c.args.p2.now in
    let h1 = c.args.h1.now in
    let h2 = c.args.h2.now in
    let first = first_from_Range _ _ _ _ (λ e. differs E h1 h2 e ≡ true) (λ e. differs E h1 h2 e ≡ false) c.find.ensures.ran (λ e q k. search (rules, tests)) (λ e q k. search (rules, tests)) in
    record { value = λ K P R of a b d f. first_fork c.args.k E h1 h2 K P R of a b d f c.find.result first; upper_bound = first_bound c.args.k E h1 h2 c.find.result first }
