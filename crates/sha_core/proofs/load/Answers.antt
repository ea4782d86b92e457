use Rattle.std.proofs.Common.{◌∙◌, sym, refl, ap, arith, rules, ◌<◌, [], slice_index_or}
use Rattle.std.specs.Int.{from_be_bytes, w32}
use Rattle.sha_core.specs.Fips180.{schedule}
use Rattle.sha_core.proofs.Laws.{more, loaded, read_word}
use Rattle.sha_core.proofs.load.Goals as goal

pub loop-t-init : goal.loop-t-init
unfolding schedule
loop-t-init c = (refl, refl)

pub loop-t-preserved : goal.loop-t-preserved
loop-t-preserved c =
    let l = c.loop-t in
    let t : l.t < 16 = omega arith in
    (search rules, more _ _ _ _ (omega arith) l.invariant.1 (c.from_be_bytes.ensures ∙ ap (λ ps. from_be_bytes w32 (slice_index_or ps l.t [])) c.as_chunks.ensures.front ∙ read_word _ l.t (omega arith) ∙ sym (loaded _ _ _ t)))
