-- `prepare::reopen_kept` meets its contract. Assumes nothing.
use Rattle.std.proofs.Common.{arith}
use Rattle.numbers.proofs.Inverse.{q_positive}
use Rattle.execution.proofs.Kept.{is_reopened, all_kept, kept_reduced}
use Rattle.execution.proofs.prepare.reopen_kept.Goals as goal

pub returns-clause-kept : goal.returns-clause-kept
returns-clause-kept c =
    all_kept (is_reopened c.args.dealing.full (omega (arith, c.requires.reply_long)) c.reopen.ensures c.draw_shares.ensures.drawn c.put_last.ensures)

pub returns-clause-reduced : goal.returns-clause-reduced
returns-clause-reduced c =
    kept_reduced (q_positive c.args.dealing.modulus.listed)
    (is_reopened c.args.dealing.full (omega (arith, c.requires.reply_long)) c.reopen.ensures c.draw_shares.ensures.drawn c.put_last.ensures) c.requires.given
