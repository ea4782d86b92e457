-- `pair` meets its contract. Assumes nothing.
use Rattle.std.proofs.Common.{◌≡◌, ◌≤◌, ◌∙◌, ℕ, Err, rules, sym, subst, arith}
use lib.ListN.{length, drop}
use Rattle.protocol.specs.Key.{Key, entries, key_of}
use Rattle.protocol.specs.Accepts.{GoodKey}
use Rattle.key.specs.KeyLaws.{entries_of}
use Rattle.judge.proofs.Runs.{front_long, key_with_lem}
use Rattle.fork.proofs.Forked.{good_key}
use Rattle.pair.specs.Lent.{lengths}
use Rattle.pair.proofs.Answering.{key_refused, room_refused, run_read}
use Rattle.pair.proofs.reader.pair.Goals as goal

pub returns-in_err-k : goal.returns-in_err-k
returns-in_err-k c =
    let is : c.from_residual.result ≡ Err c.in_err-k.field-0.0 = search rules in
    key_refused c.args.key.now (lengths (length c.args.hash1.now) (length c.args.hash2.now) (length c.args.secret.now) (length c.args.uv.now) (length c.args.entries.now) (length c.args.work.now)) c.args.run1.now c.args.run2.now
    c.args.hash1.now c.args.hash2.now c.args.secret.now c.args.uv.now (sym c.in_err-k.ensures.verdict) is

pub returns-then-not-room : goal.returns-then-not-room
returns-then-not-room c =
    room_refused c.args.key.now (lengths (length c.args.hash1.now) (length c.args.hash2.now) (length c.args.secret.now) (length c.args.uv.now) (length c.args.entries.now) (length c.args.work.now)) c.args.run1.now c.args.run2.now
    c.args.hash1.now c.args.hash2.now c.args.secret.now c.args.uv.now (sym c.in_ok-k.ensures.verdict) (sym (c.room.ensures.value (key_of c.args.key.now) c.in_ok-k.ensures.read.of) ∙ c.if-not-room.true)

pub entries-requires-clause-key_in_bounds : goal.entries-requires-clause-key_in_bounds
entries-requires-clause-key_in_bounds c =
    subst (λ (y : ℕ). y ≤ length c.args.entries.now) (entries_of _ (key_of c.args.key.now) c.in_ok-k.ensures.read.of) (c.room.ensures.entries_long c.if-not-room.false)

pub slice_bounds-read-end-2 : goal.slice_bounds-read-end-2
slice_bounds-read-end-2 c =
    sym (front_long c.args.key.now c.in_ok-k.k c.in_ok-k.ensures.read (drop (entries (key_of c.args.key.now)) c.args.entries.now) c.entry_count-count.ensures.0 c.entries.ensures)

pub invariant_of-read : goal.invariant_of-read
invariant_of-read c =
    record { entries_long = omega (arith, c.entry_count-count.ensures.0, front_long c.args.key.now c.in_ok-k.k c.in_ok-k.ensures.read (drop (entries (key_of c.args.key.now)) c.args.entries.now) c.entry_count-count.ensures.0 c.entries.ensures) }

pub read_runs-requires-clause-good_key : goal.read_runs-requires-clause-good_key
read_runs-requires-clause-good_key c =
    subst (λ (K : Key). GoodKey K) (sym (key_with_lem c.args.key.now c.in_ok-k.k c.in_ok-k.ensures.read (drop (entries (key_of c.args.key.now)) c.args.entries.now) c.entry_count-count.ensures.0 c.entries.ensures)) (good_key c.args.key.now c.in_ok-k.k c.in_ok-k.ensures.read)

pub returns : goal.returns
returns c =
    run_read c.args.key.now (lengths (length c.args.hash1.now) (length c.args.hash2.now) (length c.args.secret.now) (length c.args.uv.now) (length c.args.entries.now) (length c.args.work.now)) c.args.run1.now c.args.run2.now (sym c.in_ok-k.ensures.verdict)
    (key_with_lem c.args.key.now c.in_ok-k.k c.in_ok-k.ensures.read (drop (entries (key_of c.args.key.now)) c.args.entries.now) c.entry_count-count.ensures.0 c.entries.ensures)
    (sym (c.room.ensures.value (key_of c.args.key.now) c.in_ok-k.ensures.read.of) ∙ c.if-not-room.false) c.read_runs.ensures
