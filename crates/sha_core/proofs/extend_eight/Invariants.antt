-- `sha_core::extend_eight` meets its contract. The loop's invariant: the array starts with W_0 .. W_(j - 1), for any block of which it started with W_0 .. W_(t - 1). Assumes nothing.
use Rattle.std.proofs.Common.{◌≡◌, ℕ, List, length, take}
use Rattle.sha_core.specs.Fips180.{schedule}
use Rattle.sha_core.proofs.extend_eight.Given as goal

abbrev pub invariant-loop-j : goal.invariant-loop-j
invariant-loop-j l = (length l.w ≡ 64) × ((b : List ℕ) → take l.t l.initial.w ≡ schedule l.t b → take l.j l.w ≡ schedule l.j b)
