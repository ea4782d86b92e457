-- `open_output` meets its contract. Assumes nothing.
use Rattle.std.proofs.Common.{rules, arith, ◌≡◌, ◌+◌, ◌*◌}
use Rattle.outputs.specs.Steps.{party_of}
use Rattle.outputs.proofs.Laws.{column_is, split_first, split_next, split_done}
use Rattle.outputs.proofs.columns.Columns.open_output.Goals as goal

pub loop-k-init : goal.loop-k-init
loop-k-init c = split_first _

pub term-requires-clause-s_lt_q : goal.term-requires-clause-s_lt_q
term-requires-clause-s_lt_q c =
    let m = c.args.self.shares.m in
    let k = c.loop-k.k in
    let h : 3 * m * c.args.i + m + m + k ≡ 3 * m * c.args.i + (2 * m + k) = omega arith in
    rw h (c.args.self.shares.reduced.at c.args.i (2 * m + k) c.requires.i_lt_parties c.requires.open (omega arith))

pub loop-k-preserved : goal.loop-k-preserved
loop-k-preserved c = split_next _ c.loop-k.invariant (search rules) (column_is _ c.args.self.shares.m c.args.i c.loop-k.k _ _ _ _ c.term.ensures (omega arith) (omega arith)) c.add.ensures.low c.add.ensures.high

pub returns : goal.returns
unfolding party_of
returns c = let e : c.loop-k.k ≡ c.args.self.shares.m = omega arith in (split_done _ (rw e at c.loop-k.invariant) c.joined.ensures).is
