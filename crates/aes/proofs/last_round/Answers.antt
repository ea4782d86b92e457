-- `aes::last_round` meets its contract, place by place. Assumes nothing.
use Rattle.std.proofs.Common.{◌≡◌, rules, sym, ◌∙◌, ap, ◌+◌, ◌*◌, ◌%◌, get_or, bit_xor}
use Rattle.aes.specs.Fips197.{add_key}
use Rattle.sbox.specs.Sbox.{sbox_of}
use Rattle.aes.proofs.Laws.{made, sub_shift_at}
use Rattle.aes.proofs.last_round.Goals as goal

pub returns : goal.returns
unfolding add_key
returns c =
    let s = c.args.s.now in
    made _ _ _ 16 c.from_fn.result c.from_fn.ensures.items
    (λ k y q b m.
    let one : (y ≡ bit_xor (sbox_of (get_or s ((k + 4 * (k % 4)) % 16) 0)) (get_or c.args.w.now (160 + k) 0)) × (q ≡ (c.args.s, c.args.w)) = search rules in
    (one.0 ∙ ap (λ x. bit_xor x (get_or c.args.w.now (160 + k) 0)) (sym (sub_shift_at s k b)), one.1))
