-- The lines of the first i runs stand in front.
use Rattle.std.proofs.Common.{◌*◌, ◌≤◌, ◌≡◌, length}
use Rattle.lists.specs.Written.{Built}
use Rattle.sheet.proofs.Laws.{line_at}
use Rattle.sheet.proofs.write.Given as goal

abbrev pub invariant-loop-i : goal.invariant-loop-i
invariant-loop-i l = Built (line_at l.verdicts) l.i l.at l.initial.out l.out × (l.at ≤ 25 * l.i) × (length l.out ≡ length l.initial.out)
