-- `draw_masks` meets its contract. Invariant: the parties below i have drawn. Assumes nothing.
use mathlib.Core.Path.{◌≡◌}
use lib.ListN.{length}
use Rattle.masks.specs.Masks.{Masks}
use Rattle.masks.proofs.draw_masks.Given as goal

abbrev pub invariant-loop-i : goal.invariant-loop-i
invariant-loop-i l =
    let s = l.fn.sharing in
    Masks s.modulus.q s.m s.parties l.leaves l.work l.i × (length l.work ≡ length l.initial.work)
