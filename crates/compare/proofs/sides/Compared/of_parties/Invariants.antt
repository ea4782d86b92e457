-- `of_parties` stops at the first party whose Γ differ. Invariant: those before i are equal. Assumes nothing.
use Rattle.std.specs.Prelude.{◌≡◌, None}
use Rattle.lists.specs.Index.{cat}
use Rattle.compare.specs.Spots.{on_party}
use Rattle.compare.specs.Between.{first_between}
use Rattle.compare.proofs.sides.Compared.of_parties.Given as goal

abbrev pub invariant-loop-i : goal.invariant-loop-i
invariant-loop-i s = first_between (cat s.i (on_party s.self.numbers.m s.self.numbers.parties s.self.one.hidden s.self.two.hidden)) s.self ≡ None
