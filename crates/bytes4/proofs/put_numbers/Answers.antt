use Rattle.std.proofs.Common.{arith, rules}
use Rattle.std.proofs.lemmas.Slice.{overwrites}
use Rattle.lists.specs.Bytes.{words}
use Rattle.bytes4.proofs.Laws.{put_more}
use Rattle.bytes4.proofs.put_numbers.Goals as goal

pub loop-k-init : goal.loop-k-init
unfolding words
loop-k-init c = search rules

pub loop-k-preserved : goal.loop-k-preserved
loop-k-preserved c = (
  search (rules, overwrites),
  put_more c.loop-k.out c.args.xs.now _ c.loop-k.k _ (omega arith) (omega arith) c.loop-k.invariant.1 c.put32.ensures,
)
