-- `first_difference` takes the groups in order. Assumes nothing.
use mathlib.Core.Path.{sym, ◌∙◌}
use Rattle.compare.proofs.Laws.{answered, all_stop, all_stop_2, all_stop_3, all_end}
use Rattle.compare.proofs.sides.Compared.first_difference.Goals as goal

pub returns-in-Some : goal.returns-in-Some
returns-in-Some c =
    let both = answered c.args.self.numbers _ _ _ _ _ _ (sym (all_stop _ _ _ _ _ _ _ _ _ _ (sym c.of_hashes.ensures ∙ c.in-Some.is))) in
    record { inside = both.0; value = both.1 }

pub returns-in-Some-of_parties : goal.returns-in-Some-of_parties
returns-in-Some-of_parties c =
    let both = answered c.args.self.numbers _ _ _ _ _ _ (sym (all_stop_2 _ _ _ _ _ _ _ _ _ _ (sym c.of_hashes.ensures ∙ c.in_default.is) (sym c.of_parties.ensures ∙ c.in-Some-of_parties.is))) in
    record { inside = both.0; value = both.1 }

pub returns-in-Some-of_last : goal.returns-in-Some-of_last
returns-in-Some-of_last c =
    let both = answered c.args.self.numbers _ _ _ _ _ _ (sym (all_stop_3 _ _ _ _ _ _ _ _ _ _ (sym c.of_hashes.ensures ∙ c.in_default.is) (sym c.of_parties.ensures ∙ c.in_default-of_parties.is) (sym c.of_last.ensures ∙ c.in-Some-of_last.is))) in
    record { inside = both.0; value = both.1 }

pub returns : goal.returns
returns c =
    let both = answered c.args.self.numbers _ _ _ _ _ _ (c.of_rest.ensures ∙ sym (all_end _ _ _ _ _ _ _ _ _ _ (sym c.of_hashes.ensures ∙ c.in_default.is) (sym c.of_parties.ensures ∙ c.in_default-of_parties.is) (sym c.of_last.ensures ∙ c.in_default-of_last.is))) in
    record { inside = both.0; value = both.1 }
