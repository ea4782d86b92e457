-- `read_values`: the first of the three findings that applies. Nothing is written before it is known. Assumes nothing.
use mathlib.Core.Path.{refl, sym, ◌∙◌}
use Rattle.reading.specs.Keyed.{keyed}
use Rattle.reading.proofs.Laws.{secret_bits, finds_secret, finds_square, finds_errors}
use Rattle.reading.proofs.read_values.Goals as goal

pub write_bits-requires-clause-binary : goal.write_bits-requires-clause-binary
write_bits-requires-clause-binary c = secret_bits (keyed c.args.values) c.args.values.sums.now (sym c.is_secret.ensures ∙ c.if-is_secret.true)

pub returns-then-is_secret : goal.returns-then-is_secret
returns-then-is_secret c =
    finds_secret (keyed c.args.values) c.args.e c.args.values.sums.now _ c.args.secret.now c.args.uv.now (sym c.is_secret.ensures ∙ c.if-is_secret.true) c.write_bits.ensures

pub returns-in-Some : goal.returns-in-Some
returns-in-Some c =
    finds_square (keyed c.args.values) c.args.e c.args.values.sums.now _ c.args.secret.now c.args.uv.now (sym c.is_secret.ensures ∙ c.if-is_secret.false) c.in-Some.ensures.1 c.in-Some.ensures.0

pub returns : goal.returns
returns c =
    finds_errors (keyed c.args.values) c.args.e c.args.values.sums.now _ c.args.secret.now _ c.args.uv.now (sym c.is_secret.ensures ∙ c.if-is_secret.false) refl c.in_default.ensures c.write_errors.ensures
