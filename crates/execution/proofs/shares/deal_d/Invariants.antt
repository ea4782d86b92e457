-- `shares::deal_d` meets its contract. Invariant: the first k numbers are put. Assumes nothing.
use Rattle.execution.specs.Lists.{Put, last_d}
use Rattle.execution.proofs.shares.deal_d.Given as goal

abbrev pub invariant-loop-k : goal.invariant-loop-k
invariant-loop-k l = Put l.from l.k (last_d l.sharing.modulus.q l.sharing.m l.sharing.parties l.initial.work) l.initial.work l.work
