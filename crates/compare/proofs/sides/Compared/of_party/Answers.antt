-- What the check leaves of `of_party`. Assumes nothing.
use mathlib.Core.Path.{sym, ◌∙◌, ap}
use Rattle.compare.specs.Between.{first_between}
use Rattle.compare.specs.Spots.{first_spot}
use Rattle.compare.proofs.Laws.{party_closed, party_open, size_last, size_other}
use Rattle.compare.proofs.sides.Compared.of_party.Goals as goal
use Rattle.compare.proofs.sides.Compared.of_party.Goals.{then-i-self, else-i-self}

pub returns-then-not-open_in_both : goal.returns-then-not-open_in_both
unfolding first_spot
returns-then-not-open_in_both c =
    sym (ap (λ ss. first_between ss c.args.self) (party_closed _ _ _ _ _ (sym c.open_in_both.ensures ∙ c.if-not-open_in_both.true)))

pub returns : goal.returns
returns c =
    c.first_of.ensures
    ∙ sym
    (ap (λ ss. first_between ss c.args.self)
    (party_open _ _ _ _ _ _ (sym c.open_in_both.ensures ∙ c.if-not-open_in_both.false) c.opened.ensures
    (elim c.if-i-self.branch [
      | then-i-self w ↦ w.length-is ∙ size_last _ _ _ w.if-i-self.true
      | else-i-self w ↦ w.length-is ∙ size_other _ _ _ w.if-i-self.false
    ])))
