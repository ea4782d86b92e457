-- Lists of one length are the same where each place has the same byte. Assumes nothing.
use Rattle.std.proofs.Common.{◌≡◌, ◌∙◌, sym, refl, ℕ, eqb, get_or, length, arith, rules, tests}
use Rattle.std.specs.List.{list_all, range_with_len}
use Rattle.std.proofs.lemmas.Iterator.{YieldsList-from_range}
use Rattle.std.proofs.lemmas.Iterator.Search.{all_from_yields_List}
use Rattle.lists.specs.TestLaws.{same-every, same_length}
use Rattle.lists.proofs.Chains.{every_range}
use Rattle.bytes4.proofs.same_bytes.Goals as goal

pub returns-then-a-b : goal.returns-then-a-b
returns-then-a-b c =
    let a = c.args.a.now in
    let b = c.args.b.now in
    let agree = λ (i : ℕ). eqb (get_or a i 0) (get_or b i 0) in
    let e : c.all.result ≡ list_all agree (range_with_len 0 (length a)) = all_from_yields_List agree _ _ c.all.result c.all.ensures.ran (YieldsList-from_range 0 _ (length a) refl (omega arith)) (λ i x q k. search (rules, tests)) in
    e ∙ every_range agree (length a) ∙ sym (same-every a b (omega (arith, c.if-a-b.true)))

pub returns-else-a-b : goal.returns-else-a-b
returns-else-a-b c = search (rules, tests, same_length)
