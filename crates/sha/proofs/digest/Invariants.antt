-- r starts with the bytes of t words.
use Rattle.std.proofs.Common.{◌≡◌, ◌*◌, length, take}
use Rattle.sha_core.specs.Fips180.{bytes}
use Rattle.sha.proofs.digest.Given as goal

abbrev pub invariant-loop-t : goal.invariant-loop-t
invariant-loop-t l = (length l.r ≡ 32) × (take (4 * l.t) l.r ≡ bytes l.t l.fn.h)
