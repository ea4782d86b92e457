-- `row`: what the chain gives. Assumes nothing.
use Rattle.std.proofs.Common.{ℕ, List, ◌≡◌, ◌∙◌, ap, ◌+◌, ◌*◌, ◌<◌, ◌≤◌, length, get_or, take, drop, get_or-take, get_or-drop, length-take-le, length-drop, arith, rules, tests}
use Rattle.std.specs.List.{fold, zip}
use Rattle.std.proofs.lemmas.List.{take_all}
use Rattle.std.specs.Iterator.Adapters.{zip_first, zip_second}
use Rattle.std.specs.Slice.Iter.{iter_rest}
use Rattle.std.proofs.lemmas.Iterator.{YieldsList-from_slice, YieldsList-from_zip}
use Rattle.std.proofs.lemmas.Iterator.Consumers.{fold_from_yields_List}
use Rattle.numbers.proofs.Inverse.{q_positive}
use Rattle.protocol.specs.Key.{A}
use Rattle.reading.specs.Found.{s_at}
use Rattle.reading.specs.Keyed.{keyed}
use Rattle.reading.proofs.Laws.{turn, row_is, row_end}
use Rattle.reading.proofs.values.Values.row.Goals as goal

pub returns : goal.returns
returns c =
    let v = c.args.self in
    let K = keyed v in
    let m = v.key.numbers.m in
    let l = c.args.l in
    let a = take m (drop (l * m) v.key.entries.now) in
    let s = drop (2 * m) v.sums.now in
    let end : l * m + m ≤ length v.key.entries.now = omega (arith, row_end l m v.key.numbers.n c.requires, v.key.entries_long) in
    let la : length a ≡ m = length-take-le m (drop (l * m) v.key.entries.now) (omega (arith, length-drop (l * m) v.key.entries.now, end)) in
    let ls : length s ≡ m = omega (arith, length-drop (2 * m) v.sums.now, v.sums_long) in
    let aj : (j : ℕ) → j < m → get_or a j 0 ≡ A K l j = λ j h. grind (arith, get_or-take, get_or-drop) in
    let sj : (j : ℕ) → j < m → get_or s j 0 ≡ s_at m v.sums.now j = λ j h. grind (arith, get_or-drop) in
    let ra : iter_rest (zip_first c.zip.result) ≡ a = ap iter_rest c.zip.ensures.first ∙ c.iter.ensures.rest ∙ ap (λ (z : List ℕ). take m z) (take_all _ (drop (l * m) v.key.entries.now) (omega (arith, length-drop (l * m) v.key.entries.now))) in
    let rb : iter_rest (zip_second c.zip.result) ≡ s = c.zip.ensures.second.0 ∙ take_all _ (drop (2 * m) v.sums.now) (omega (arith, length-drop (2 * m) v.sums.now)) in
    let e : c.fold.result ≡ fold (turn K.q) 0 (zip a s) =
    fold_from_yields_List _ (turn K.q) 0 c.fold.result c.fold.ensures.ran (YieldsList-from_zip (YieldsList-from_slice a ra) (YieldsList-from_slice s rb)) (λ n x b p k. search (rules, tests)) in
    row_is K v.sums.now l a s (q_positive v.key.numbers.modulus.listed) la ls aj sj e
