-- `put_totals` meets its contract: the words and their numbers stand one behind the other. Assumes nothing.
use native.Mathlib.Omega.{arith}
use Rattle.sheet.proofs.Laws.{totals-written}
use Rattle.sheet.proofs.put_totals.Goals as goal

pub returns : goal.returns
returns c =
    totals-written _ _ _ (omega (arith, c.requires)) c.put_number-a.ensures.puts c.put_number-b.ensures.puts
    c.put_number-c.ensures.puts c.put_text.ensures
