use Rattle.std.proofs.Common.{◌∙◌, arith, rules}
use Rattle.std.proofs.lemmas.Slice.{overwrites}
use Rattle.sha_core.specs.Fips180.{bytes}
use Rattle.sha.proofs.Laws.{bytes-more}
use Rattle.sha.proofs.digest.Goals as goal

pub loop-t-init : goal.loop-t-init
unfolding bytes
loop-t-init c = search rules

pub loop-t-preserved : goal.loop-t-preserved
loop-t-preserved c = (
  search (rules, overwrites),
  bytes-more c.args.h c.loop-t.r _ c.loop-t.t _ (omega arith) c.loop-t.invariant.1 (c.copy_from_slice.ensures.after ∙ c.to_be_bytes.ensures),
)
