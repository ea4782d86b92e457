-- `open_side` meets its contract. Assumes nothing.
use Prim.Native.Nat.{◌≤◌}
use mathlib.Core.Path.{◌≡◌}
use native.Mathlib.Omega.{arith}
use lib.ListN.{length, take}
use borrow.Author.Rules.{rules}
use Rattle.protocol.specs.Transcript.{parts_of}
use Rattle.key.specs.Numbers.{key_with}
use Rattle.side.proofs.Laws.{sided, headed, seed-long, κ_in, reply_in, reply-long, reply_given, kept_in}
use Rattle.side.proofs.open_side.Goals as goal

pub split-parts-requires : goal.split-parts-requires
split-parts-requires c =
    (headed c.requires.sound).good

pub slice_bounds-reply-end : goal.slice_bounds-reply-end
slice_bounds-reply-end c = omega (arith, reply_in c.requires.sound c.split-parts.ensures c.reply_start-at.ensures.value c.reply_length.ensures.value)

pub unwrap-kappa-requires : goal.unwrap-kappa-requires
unwrap-kappa-requires c =
    let long : 16 ≤ length c.split-parts.result.p7.now = κ_in c.requires.sound c.split-parts.ensures in
    search rules

pub unwrap-seed-requires : goal.unwrap-seed-requires
unwrap-seed-requires c =
    let long : length c.split-parts.result.p4.now ≡ 16 = seed-long c.requires.sound c.split-parts.ensures in
    search rules

pub reopen_kept-requires-clause-reply_long : goal.reopen_kept-requires-clause-reply_long
reopen_kept-requires-clause-reply_long c = reply-long c.requires.sound c.split-parts.ensures c.reply_start-at.ensures.value c.reply_length.ensures.value _ _ (omega arith) (omega arith)

pub reopen_kept-requires-clause-given : goal.reopen_kept-requires-clause-given
reopen_kept-requires-clause-given c = reply_given c.requires.sound c.split-parts.ensures c.reply_start-at.ensures.value c.reply_length.ensures.value _ _ (omega arith) (omega arith)

pub write-requires-clause-reply_long : goal.write-requires-clause-reply_long
write-requires-clause-reply_long c = reply-long c.requires.sound c.split-parts.ensures c.reply_start-at.ensures.value c.reply_length.ensures.value _ _ (omega arith) (omega arith)

pub returns-clause-sided : goal.returns-clause-sided
returns-clause-sided c =
    let kappa : c.unwrap-kappa.result.now ≡ take 16 c.split-parts.result.p7.now = search rules in
    let seed : c.unwrap-seed.result.now ≡ c.split-parts.result.p4.now = search rules in
    sided
    c.reopen_kept.ensures.kept
    (kept_in c.requires.sound c.split-parts.ensures c.reply_start-at.ensures.value c.reply_length.ensures.value (omega arith) (omega arith) kappa seed)
    (c.write.ensures.written (key_with c.args.key.numbers c.args.key.entries.now) (parts_of c.args.run.now))
