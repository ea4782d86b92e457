-- `entries` reads as many numbers as A and t have entries. Assumes nothing.
use Rattle.std.proofs.Common.{◌≡◌, ◌++◌, ◌∙◌, ap, drop, List, ℕ, arith}
use Rattle.protocol.specs.Key.{entries, key_of}
use Rattle.key.specs.KeyLaws.{entries_of}
use Rattle.key.proofs.Laws.{entries_read}
use Rattle.key.proofs.entries.Goals as goal

pub returns : goal.returns
returns c =
    let n = c.entry_count.result in
    let size : n ≡ entries (key_of c.args.key.now) = c.entry_count.ensures.0 ∙ entries_of _ _ c.numbers_of-k.ensures.of in
    ap (λ (l : List ℕ). l ++ drop n c.args.at.now) c.read_numbers.ensures
    ∙ entries_read c.args.key.now c.args.at.now n (omega (arith, c.numbers_of-k.ensures.long)) (omega (arith, size, c.requires.key_in_bounds)) size
