-- `open_sum` meets its contract. Assumes nothing.
use Rattle.std.proofs.Common.{◌+◌, arith, sym, ◌∙◌, ◌≡◌}
use Rattle.numbers.specs.Sum.{sum}
use Rattle.joined.specs.Joined.{open_at}
use Rattle.joined.proofs.Laws.{none_hidden, one_hidden, open_all}
use Rattle.joined.proofs.open_sum.Goals as goal

pub returns-then-hidden-parties : goal.returns-then-hidden-parties
returns-then-hidden-parties c =
    let a = c.args in
    open_all _ _ _ _ _ _ _ a.work.now (c.column-all.ensures ∙ sym (none_hidden a.sharing.m a.hidden a.work.now a.j a.sharing.parties c.if-hidden-parties.true)) c.reduced.ensures

pub overflow_sub-all : goal.overflow_sub-all
overflow_sub-all c =
    let a = c.args in
    omega (arith, c.column-all.ensures, c.from.ensures, one_hidden a.sharing.m a.hidden a.work.now a.j a.sharing.parties (omega (arith, c.if-hidden-parties.false)))

pub returns : goal.returns
returns c =
    let a = c.args in
    let shown : sum a.sharing.parties (open_at a.sharing.m a.hidden a.work.now a.j) + c.from.result ≡ c.column-all.result =
    omega (arith, c.column-all.ensures, c.from.ensures, one_hidden a.sharing.m a.hidden a.work.now a.j a.sharing.parties (omega (arith, c.if-hidden-parties.false)))
    in
    open_all _ _ _ _ _ _ _ a.work.now (omega (arith, shown)) c.reduced-2.ensures
