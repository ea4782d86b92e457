-- The texts stand one behind the other.
use Rattle.std.proofs.Common.{◌≡◌, ◌+◌, ◌++◌, length, drop, refl, arith}
use Rattle.line.specs.Line.{line_of}
use Rattle.line.proofs.Laws.{long, counted, accepted_line, refused_written}
use Rattle.line.proofs.verdict_line.Goals as goal

pub returns-then-number-eq0 : goal.returns-then-number-eq0
returns-then-number-eq0 c =
    let e = accepted_line c.args.number c.if-number-eq0.true in
    let long_as : c.put_text.result ≡ length (line_of c.args.number) = rw e c.put_text.ensures.value in
    let stands : c.put_text.new.out ≡ line_of c.args.number ++ drop c.put_text.result c.args.out.now = rw e c.put_text.ensures.out_after in
    let all = counted (line_of c.args.number) (drop c.put_text.result c.args.out.now) (long_as, stands) in
    record { value = all.0; out_after = all.1.0; upper_bound = all.1.1 }

pub put_text-requires-2 : goal.put_text-requires-2
put_text-requires-2 c = omega (arith, c.put_decimal.ensures.value, long 10 c.args.number, c.put_text-a.ensures.value)

pub returns : goal.returns
returns c =
    let a = c.put_text-a in
    let k = c.put_decimal in
    let j = c.put_text-2 in
    let out = c.args.out.now in
    let written = refused_written c.args.number out _ _ _ _ _ _ _ c.if-number-eq0.false a.ensures.value a.ensures.out_after
    k.ensures.value k.ensures.out_after refl j.ensures.value j.ensures.out_after in
    let all = counted (line_of c.args.number) (drop (a.result + k.result + j.result) out) written in
    record { value = all.0; out_after = all.1.0; upper_bound = all.1.1 }
