-- The last digits are the definition's.
use Rattle.std.proofs.Common.{List, ℕ, ◌++◌, length, drop, ap, ◌∙◌}
use Rattle.line.proofs.Digits.{shown}
use Rattle.line.proofs.put_decimal.Goals as goal

pub returns : goal.returns
returns c =
    let put = c.put_text.ensures in
    let same = shown c.args.most c.args.n _ _ c.ranges.n.fits (c.as_bytes-digits.ensures.value ∙ c.format.ensures.text) c.saturating_sub.ensures in
    record { value = put.value ∙ ap length same; out_after = put.out_after ∙ ap (λ (l : List ℕ). l ++ drop c.put_text.result c.args.out.now) same }
