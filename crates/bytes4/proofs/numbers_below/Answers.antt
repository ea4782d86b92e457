-- What the check leaves of `numbers_below`. Assumes nothing.
use Rattle.std.proofs.Common.{◌≡◌, ◌∙◌, ◌/◌, ltb, length, ℕ, List, ap, rules, tests}
use Rattle.std.specs.List.{list_all}
use Rattle.std.specs.Simd.{first_chunks}
use Rattle.std.specs.Int.{from_le_bytes, w32}
use Rattle.std.proofs.lemmas.Iterator.{YieldsList-from_slice}
use Rattle.std.proofs.lemmas.Iterator.Search.{all_from_yields_List}
use Rattle.lists.specs.TestLaws.{every_ext}
use Rattle.lists.proofs.Chains.{every_chunk}
use Rattle.bytes4.proofs.Laws.{read_four}
use Rattle.bytes4.proofs.numbers_below.Goals as goal

pub returns : goal.returns
returns c =
    let bytes = c.args.bytes.now in
    let fours = first_chunks 4 (length bytes / 4) bytes in
    let below = λ (four : List ℕ). ltb (from_le_bytes w32 four) c.args.q in
    let e : c.all.result ≡ list_all below fours = all_from_yields_List below _ _ c.all.result c.all.ensures.ran (YieldsList-from_slice fours (c.iter.ensures.rest ∙ c.as_chunks.ensures.front)) (λ x b q k. search (rules, tests)) in
    e ∙ every_chunk below 4 (length bytes / 4) bytes ∙ every_ext _ _ _ (λ j h. ap (λ (x : ℕ). ltb x c.args.q) (read_four bytes j))
