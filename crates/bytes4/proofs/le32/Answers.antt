-- The number by its four bytes.
use Rattle.std.proofs.Common.{◌≡◌, ◌*◌, ◌-◌, ◌∙◌, ap, List, ℕ, length, take, drop, arith, take_all}
use lib.ListN.{length-drop}
use Rattle.std.specs.Int.{from_le_bytes, w32}
use Rattle.lists.specs.Index.{part}
use Rattle.bytes4.proofs.Laws.{read_four}
use Rattle.bytes4.proofs.le32.Goals as goal

pub returns : goal.returns
returns c =
    let b = c.args.b.now in let at = 4 * c.args.j in
    let four = rw c.unwrap-four.ensures at c.first_chunk.ensures.cases in
    let cut : c.unwrap-four.result.now ≡ part b at 4 =
    four.same ∙ ap (λ (l : List ℕ). take 4 l) (take_all (length b - at) (drop at b) (omega (arith, length-drop at b))) in
    c.from_le_bytes.ensures ∙ ap (λ (l : List ℕ). from_le_bytes w32 l) cut ∙ read_four b c.args.j
