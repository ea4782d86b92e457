-- `h_gamma` feeds h(e) of each execution. Invariant: the hash has h(1) .. h(x). Assumes nothing.
use mathlib.Core.Path.{◌≡◌}
use lib.ListN.{length}
use Rattle.message_1.specs.Parts.{FedH}
use Rattle.message_1.proofs.h_gamma.Given as goal

abbrev pub invariant-loop-x : goal.invariant-loop-x
invariant-loop-x l = (length l.work ≡ length l.initial.work) × FedH l.fn.k.modulus.q l.fn.k.m l.fn.k.parties l.fn.k.depth l.seeds l.initial.s l.x l.s
