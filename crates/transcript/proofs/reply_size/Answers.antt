-- `reply_size`: log2 N seeds, Γ and the numbers. Assumes nothing.
use Rattle.std.proofs.Common.{sym, ap₂, ◌∙◌, ℕ, ◌+◌, ◌*◌, arith}
use Rattle.transcript.specs.Replies.{size_kept}
use Rattle.transcript.proofs.reply_size.Goals as goal

pub returns : goal.returns
returns c = (
  omega (arith, c.args.k.deep.most, c.given_count.ensures.0),
  λ K P x of o e.
      ap₂ (λ (d n : ℕ). 16 * d + 32 + 4 * n) (c.args.k.deep.is K (sym of.parties_is)) (c.given_count.ensures.1 K P x of e) ∙ sym (size_kept K P x o),
)
