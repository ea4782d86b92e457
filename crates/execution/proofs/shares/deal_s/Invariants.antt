-- `shares::deal_s` meets its contract. Invariant: the first k numbers are put. Assumes nothing.
use lib.ListN.{get_or}
use Rattle.execution.specs.Lists.{Put, last_s}
use Rattle.execution.proofs.shares.deal_s.Given as goal

abbrev pub invariant-loop-k : goal.invariant-loop-k
invariant-loop-k l = Put l.from l.k (λ k. last_s l.sharing.modulus.q l.sharing.m l.sharing.parties l.initial.work (get_or l.secret k 0) k) l.initial.work l.work
