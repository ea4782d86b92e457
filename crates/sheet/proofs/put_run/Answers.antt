-- `put_run` meets its contract: the three texts stand one behind the other. Assumes nothing.
use Prim.Native.Nat.{◌≤◌}
use lib.ListN.{length}
use native.Mathlib.Omega.{arith}
use Rattle.sheet.proofs.Laws.{puts_tail, run_written}
use Rattle.sheet.proofs.put_run.Goals as goal

pub returns : goal.returns
returns c =
    let v = c.verdict_line.ensures in
    let near : c.args.at ≤ length c.args.out.now = omega (arith, c.requires.at_in_bounds) in
    let both = run_written c.args.i c.args.number near c.name-file.ensures c.put_text-a.ensures c.put_text-b.ensures (puts_tail _ _ _ _ _ v.value v.out_after) in
    record { puts = both.0; upper_bound = both.1 }
