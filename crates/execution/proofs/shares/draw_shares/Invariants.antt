-- `shares::draw_shares` meets its contract. Invariant: the parties below i have drawn. Assumes nothing.
use mathlib.Core.Path.{◌≡◌}
use lib.ListN.{length}
use Rattle.execution.specs.Lists.{Drawn}
use Rattle.execution.proofs.shares.draw_shares.Given as goal

abbrev pub invariant-loop-i : goal.invariant-loop-i
invariant-loop-i l = Drawn l.sharing.modulus.q l.sharing.m l.sharing.parties l.hidden l.per l.leaves l.work l.i × (length l.work ≡ length l.initial.work)
