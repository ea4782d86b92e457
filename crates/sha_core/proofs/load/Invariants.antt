-- The array starts with W_0 .. W_(t - 1).
use Rattle.std.proofs.Common.{◌≡◌, length, take}
use Rattle.sha_core.specs.Fips180.{schedule}
use Rattle.sha_core.proofs.load.Given as goal

abbrev pub invariant-loop-t : goal.invariant-loop-t
invariant-loop-t l = (length l.w ≡ 64) × (take l.t l.w ≡ schedule l.t l.b)
