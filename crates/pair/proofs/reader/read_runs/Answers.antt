-- `read_runs` meets its contract. Assumes nothing.
use Rattle.std.proofs.Common.{◌≡◌, Err, rules, sym}
use Rattle.key.specs.Numbers.{key_with}
use Rattle.pair.proofs.Answering.{forks_of, reads_refused, reads_accepted}
use Rattle.pair.proofs.reader.read_runs.Goals as goal

pub returns-in_err-check : goal.returns-in_err-check
returns-in_err-check c =
    let is : c.from_residual.result ≡ Err c.in_err-check.field-0.0 = search rules in
    reads_refused _ _ c.args.hash1.now c.args.hash2.now c.args.secret.now c.args.uv.now (sym c.in_err-check.ensures.verdict) is

pub read_fork-requires-clause-forks : goal.read_fork-requires-clause-forks
read_fork-requires-clause-forks c =
    forks_of (key_with c.args.key.numbers c.args.key.entries.now) c.args.run1.now c.args.run2.now c.requires.good_key (sym c.in_ok-check.ensures.verdict)

pub returns : goal.returns
returns c = reads_accepted _ (sym c.in_ok-check.ensures.verdict) c.read_fork.ensures
