-- `put_text` meets its contract. Assumes nothing.
use Rattle.sheet.proofs.Laws.{puts_tail}
use Rattle.sheet.proofs.put_text.Goals as goal

pub returns : goal.returns
returns c = puts_tail _ _ _ _ _ c.put_text.ensures.value c.put_text.ensures.out_after
