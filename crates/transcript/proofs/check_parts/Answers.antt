-- `check_parts` makes the four tests in their order; each arm's law gives the number. Assumes nothing.
use Rattle.std.proofs.Common.{refl, ◌∙◌, []}
use Rattle.key.specs.Numbers.{key_with, of_with}
use Rattle.transcript.specs.Replies.{parts_with, length-of}
use Rattle.transcript.proofs.Laws.{form_7, form_10, form_13, form_14, form_none, opened_test, hidden_test, numbers_test, replies_long, replies_other}
use Rattle.transcript.proofs.check_parts.Goals as goal

pub returns-then-not-good_opened : goal.returns-then-not-good_opened
returns-then-not-good_opened c = λ K P of a b p. form_7 K P (opened_test _ K P of a b p c.good_opened.ensures c.if-not-good_opened.true)

pub returns-then-not-good_hidden : goal.returns-then-not-good_hidden
returns-then-not-good_hidden c =
    λ K P of a b p.
    form_10 K P (opened_test _ K P of a b p c.good_opened.ensures c.if-not-good_opened.false)
    (hidden_test _ K P of a b p c.good_hidden.ensures c.if-not-good_hidden.true)

pub returns-then-replies-replies_length : goal.returns-then-replies-replies_length
returns-then-replies-replies_length c =
    λ K P of a b p.
    form_13 K P (opened_test _ K P of a b p c.good_opened.ensures c.if-not-good_opened.false)
    (hidden_test _ K P of a b p c.good_hidden.ensures c.if-not-good_hidden.false)
    (replies_other _ K P of a b p c.replies_length.ensures c.if-replies-replies_length.true)

pub good_numbers-requires : goal.good_numbers-requires
good_numbers-requires c = c.if-replies-replies_length.false ∙ c.replies_length.ensures ∙ length-of c.args.k (key_with c.args.k []) (of_with c.args.k []) (parts_with c.args.e.now c.args.hidden.now c.args.replies.now) _ _ refl refl

pub returns-then-not-good_numbers : goal.returns-then-not-good_numbers
returns-then-not-good_numbers c =
    λ K P of a b p.
    form_14 K P (opened_test _ K P of a b p c.good_opened.ensures c.if-not-good_opened.false)
    (hidden_test _ K P of a b p c.good_hidden.ensures c.if-not-good_hidden.false)
    (replies_long _ K P of a b p c.replies_length.ensures c.if-replies-replies_length.false)
    (numbers_test _ K P of a b p c.good_numbers.ensures c.if-not-good_numbers.true)

pub returns : goal.returns
returns c =
    λ K P of a b p.
    form_none K P (opened_test _ K P of a b p c.good_opened.ensures c.if-not-good_opened.false)
    (hidden_test _ K P of a b p c.good_hidden.ensures c.if-not-good_hidden.false)
    (replies_long _ K P of a b p c.replies_length.ensures c.if-replies-replies_length.false)
    (numbers_test _ K P of a b p c.good_numbers.ensures c.if-not-good_numbers.false)
