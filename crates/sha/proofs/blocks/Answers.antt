-- The fold over the blocks is the standard's, whatever whole blocks came before. Assumes nothing.
use Rattle.std.proofs.Common.{◌∙◌, ◌/◌, ◌++◌, length, ap, sym, rules, arith}
use Rattle.sha_core.specs.Fips180.{absorb}
use Rattle.sha.proofs.Laws.{blocks_folded, all_taken}
use Rattle.sha.proofs.blocks.Goals as goal

pub returns : goal.returns
returns c m h e =
    let ran = c.fold.ensures.ran in
    let end = ran.2.1 in
    let found =
    blocks_folded _ _ ran.0 c.chunks_exact.result _ m _ _ c.chunks_exact.ensures.size h (search rules) e end.1 ran.3 (λ a x b k. search rules) in
    let all = all_taken (m ++ c.args.d.now) found.0 _ (ap (λ l. m ++ l) (sym c.chunks_exact.ensures.rest) ∙ found.1) (omega (arith, found.2, end.2.1.0)) found.3 in
    found.4 ∙ ap (λ p. absorb (length p / 64) p) all
