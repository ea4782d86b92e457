-- `part_start` adds up the lengths before part i. Invariant: `at` is where part j begins. Assumes nothing.
use Rattle.std.proofs.Common.{◌≡◌, ◌+◌, ◌*◌, ◌≤◌}
use Rattle.protocol.specs.Key.{Key}
use Rattle.key.specs.Numbers.{Of}
use Rattle.transcript.specs.Layout.{start_of}
use Rattle.transcript.proofs.part_start.Given as goal

abbrev pub invariant-loop-j : goal.invariant-loop-j
invariant-loop-j l = (l.at ≤ 56 + 1056 * l.j) × ((K : Key) → Of l.k K → l.at ≡ start_of K l.j)
