-- `is_solution` compares each row with t. Invariant: the rows before l agree, and what is left begins with row l. Assumes nothing.
use Rattle.std.proofs.Common.{◌≡◌, ◌*◌, true}
use Rattle.lists.specs.Index.{every}
use Rattle.forms.proofs.Laws.{solves_row, after}
use Rattle.forms.proofs.is_solution.Given as goal

abbrev pub invariant-loop-l : goal.invariant-loop-l
invariant-loop-l l =
    (l.l-iterator.iter.size ≡ 4 * l.k.m)
    × (l.l-iterator.iter.rest.now ≡ after l.key l.k l.l-iterator.count)
    × (every l.l-iterator.count (solves_row l.key l.secret) ≡ true)
