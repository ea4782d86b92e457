-- The array starts with 8 i words of the schedule, and at least 16; v is the state after 8 i rounds.
use Rattle.std.proofs.Common.{◌≡◌, ◌*◌, ◌≤◌, length, take}
use Rattle.sha_core.specs.Fips180.{schedule, rounds}
use Rattle.sha_core.proofs.run.Given as goal

abbrev pub invariant-loop-i : goal.invariant-loop-i
invariant-loop-i l =
    record {
      long : length l.w ≡ 64;
      early : l.i ≤ 2 → take 16 l.w ≡ schedule 16 l.b;
      later : 2 ≤ l.i → take (8 * l.i) l.w ≡ schedule (8 * l.i) l.b;
      state : l.v ≡ rounds (8 * l.i) l.initial.v (schedule 64 l.b);
    }
