-- `put_number` meets its contract: the digits stand behind the word. Assumes nothing.
use native.Mathlib.Omega.{arith}
use Rattle.sheet.proofs.Laws.{puts_tail, number-written}
use Rattle.sheet.proofs.put_number.Goals as goal

pub returns : goal.returns
returns c =
    let d = c.put_decimal.ensures in
    let both = number-written c.args.n (omega arith) c.put_text-a.ensures (puts_tail _ _ _ _ _ d.value d.out_after) in
    record { puts = both.0; upper_bound = both.1 }
