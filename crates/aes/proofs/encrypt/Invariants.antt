-- `aes::encrypt` meets its contract: before turn n of the loop, s is the state after n rounds. Assumes nothing.
use Rattle.std.proofs.Common.{◌≡◌}
use Rattle.aes.specs.Fips197.{rounds}
use Rattle.aes.proofs.encrypt.Given as goal

abbrev pub invariant-loop-n : goal.invariant-loop-n
invariant-loop-n l = l.s ≡ rounds l.w l.n l.initial.s
