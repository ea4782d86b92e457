-- `write` reads A and t, copies κ and writes the replies behind it. Assumes nothing.
use Rattle.std.proofs.Common.{◌≡◌, ◌*◌, sym, ap, ◌∙◌, refl, arith, rules, length}
use Rattle.lists.specs.TestLaws.{clean}
use Rattle.protocol.specs.Key.{key_of}
use Rattle.prover.proofs.Laws.{inputs_of7}
use Rattle.message_7.proofs.Laws.{hides_of, long_7, key_in, message_is, message7_of}
use Rattle.message_7.proofs.InputsCall.write.Goals as goal

pub invariant_of-materials : goal.invariant_of-materials
invariant_of-materials c =
    let of = c.requires.read.of in
    let g = inputs_of7 (key_of c.args.key.now) _ _ _ _ _ _ (clean _ c.requires.inputs_good) in
    record { seeds_long = g.0.seeds_long ∙ ap (λ n. 16 * n) (sym of.executions_is); secret_long = g.0.secret_long ∙ sym of.m_is; kappa_long = g.0.κ_long }

pub unwrap-seed-requires : goal.unwrap-seed-requires
unwrap-seed-requires c =
    let of = c.requires.read.of in
    let g = inputs_of7 (key_of c.args.key.now) _ _ _ _ _ _ (clean _ c.requires.inputs_good) in
    let long : length c.args.self.seed.now ≡ 16 = g.1 in
    search rules

pub split_at_mut-front-requires : goal.split_at_mut-front-requires
split_at_mut-front-requires c =
    let a = c.args in
    let of = c.requires.read.of in
    let g = inputs_of7 (key_of a.key.now) _ _ _ _ _ _ (clean _ c.requires.inputs_good) in
    let w = a.self.given in
    let long = long_7 a.k (key_of a.key.now) a.k.depth _ w.seeds.now w.secret.now w.e.now w.kappa.now a.self.seed.now a.self.hidden.now of a.k.deep g.0.good g.2 g.0.κ_long (sym c.requires.out_long) in
    omega (arith, long)

pub replies-requires-clause-hides : goal.replies-requires-clause-hides
replies-requires-clause-hides c =
    let a = c.args in
    let of = c.requires.read.of in
    let g = inputs_of7 (key_of a.key.now) _ _ _ _ _ _ (clean _ c.requires.inputs_good) in
    hides_of _ (key_of a.key.now) a.self.given.e.now a.self.hidden.now of g.0.good g.2

pub replies-requires-clause-out_long : goal.replies-requires-clause-out_long
replies-requires-clause-out_long c =
    let a = c.args in
    let of = c.requires.read.of in
    let g = inputs_of7 (key_of a.key.now) _ _ _ _ _ _ (clean _ c.requires.inputs_good) in
    let w = a.self.given in
    let long = long_7 a.k (key_of a.key.now) a.k.depth _ w.seeds.now w.secret.now w.e.now w.kappa.now a.self.seed.now a.self.hidden.now of a.k.deep g.0.good g.2 g.0.κ_long (sym c.requires.out_long) in
    omega (arith, long, c.split_at_mut-front.ensures.back_len)

pub returns : goal.returns
returns c =
    let a = c.args in
    let of = c.requires.read.of in
    let L : c.unwrap-seed.result.now ≡ a.self.seed.now = search rules in
    rw L at (message7_of (message_is c.replies.ensures c.copy_from_slice.ensures.after refl) (key_in a.k (key_of a.key.now) _ a.entries.now _ of refl c.entries.ensures))

pub copy_from_slice-requires : goal.copy_from_slice-requires
copy_from_slice-requires c =
    let g = inputs_of7 (key_of c.args.key.now) _ _ _ _ _ _ (clean _ c.requires.inputs_good) in
    let long : length c.args.self.given.kappa.now ≡ 16 = g.0.κ_long in
    search rules
