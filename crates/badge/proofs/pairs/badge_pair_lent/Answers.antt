-- `badge_pair_lent` meets its contract. Assumes nothing.
use Rattle.std.proofs.Common.{◌≡◌, Err, rules, sym}
use lib.ListN.{length}
use Rattle.pair.specs.Lent.{lengths}
use Rattle.badge.proofs.Readings.{short_key, short_room, long_read, narrow_reading}
use Rattle.badge.proofs.pairs.badge_pair_lent.Goals as goal

pub returns-in_err-read : goal.returns-in_err-read
returns-in_err-read c =
    let is : c.from_residual.result ≡ Err c.in_err-read.field-0.0 = search rules in
    let called = short_key (length c.args.answer.now) c.args.key.now (lengths (length c.args.hash1.now) (length c.args.hash2.now) (length c.args.secret.now) (length c.args.uv.now) (length c.args.entries.now) (length c.args.work.now)) c.args.run1.now c.args.run2.now c.has_room.ensures c.in_err-read.field-0.0 _ c.args.hash1.now c.args.hash2.now c.args.secret.now c.args.uv.now c.args.answer.now c.if-not-has_room.true (sym c.in_err-read.ensures.verdict) is in
    record { reads = called.reads; answer_after = called.answer_after }

pub returns-then-not-has_room : goal.returns-then-not-has_room
returns-then-not-has_room c =
    let called = short_room (length c.args.answer.now) c.args.key.now (lengths (length c.args.hash1.now) (length c.args.hash2.now) (length c.args.secret.now) (length c.args.uv.now) (length c.args.entries.now) (length c.args.work.now)) c.args.run1.now c.args.run2.now c.has_room.ensures c.args.hash1.now c.args.hash2.now c.args.secret.now c.args.uv.now c.args.answer.now c.if-not-has_room.true (sym c.in_ok-read.ensures.verdict) in
    record { reads = called.reads; answer_after = called.answer_after }

pub write_row-requires-clause-narrow : goal.write_row-requires-clause-narrow
write_row-requires-clause-narrow c = narrow_reading c.args.key.now (lengths (length c.args.hash1.now) (length c.args.hash2.now) (length c.args.secret.now) (length c.args.uv.now) (length c.args.entries.now) (length c.args.work.now)) c.args.run1.now c.args.run2.now c.pair-r.ensures.answer

pub returns : goal.returns
returns c =
    let called = long_read (length c.args.answer.now) c.args.key.now (lengths (length c.args.hash1.now) (length c.args.hash2.now) (length c.args.secret.now) (length c.args.uv.now) (length c.args.entries.now) (length c.args.work.now)) c.args.run1.now c.args.run2.now c.has_room.ensures c.if-not-has_room.false c.pair-r.ensures c.write_row.ensures in
    record { reads = called.reads; answer_after = called.answer_after }
