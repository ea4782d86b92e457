-- `good_header` compares pair by pair. Invariant: the pairs before i are right, and part i begins at `at`. Assumes nothing.
use Rattle.std.proofs.Common.{◌≡◌, ◌+◌, ◌*◌, ◌≤◌, true, get_or}
use lib.Dec.{eqb}
use Rattle.lists.specs.Bytes.{num}
use Rattle.lists.specs.Index.{every}
use Rattle.protocol.specs.Key.{Key}
use Rattle.protocol.specs.Transcript.{sizes}
use Rattle.key.specs.Numbers.{Of}
use Rattle.transcript.specs.Layout.{start_of}
use Rattle.transcript.proofs.good_header.Given as goal

abbrev pub invariant-loop-i : goal.invariant-loop-i
invariant-loop-i l =
    (l.at ≤ 56 + 1056 * l.i)
    × ((K : Key) → Of l.fn.k K → every l.i (λ j. eqb (num l.x (2 * j)) (start_of K j)) ≡ true)
    × ((K : Key) → Of l.fn.k K → every l.i (λ j. eqb (num l.x (2 * j + 1)) (get_or (sizes K) j 0)) ≡ true)
    × ((K : Key) → Of l.fn.k K → l.at ≡ start_of K l.i)
