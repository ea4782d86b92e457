-- `write` fills both halves of the output. Assumes nothing.
use Rattle.std.proofs.Common.{◌≡◌, ◌+◌, ◌*◌, ◌-◌, not, sym, ap, ◌∙◌, arith, length}
use Rattle.lists.specs.Index.{count}
use Rattle.lists.specs.TestLaws.{clean}
use Rattle.protocol.specs.Key.{key_of}
use Rattle.protocol.specs.Prover.{opened}
use Rattle.protocol.proofs.Sizes.{message3_length}
use Rattle.prover.proofs.Laws.{inputs_of3, opened_of, kept_of, sized_of}
use Rattle.message_3.proofs.Laws.{message3_of}
use Rattle.message_3.proofs.InputsCall.write.Goals as goal

pub split_at_mut-front-requires : goal.split_at_mut-front-requires
split_at_mut-front-requires c =
    let of = c.requires.read.of in
    let given = c.args.self.given in
    let g = inputs_of3 (key_of c.args.key.now) _ _ _ _ (clean _ c.requires.inputs_good) in
    let long = message3_length (key_of c.args.key.now) given.seeds.now given.secret.now given.e.now given.kappa.now g.seeds_long g.good in
    omega (arith, long, c.requires.out_long, of.τ_is)

pub invariant_of-materials : goal.invariant_of-materials
invariant_of-materials c =
    let of = c.requires.read.of in
    let given = c.args.self.given in
    let g = inputs_of3 (key_of c.args.key.now) _ _ _ _ (clean _ c.requires.inputs_good) in
    record { seeds_long = g.seeds_long ∙ ap (λ n. 16 * n) (sym of.executions_is); secret_long = g.secret_long ∙ sym of.m_is; kappa_long = g.κ_long }

pub masters-requires : goal.masters-requires
masters-requires c =
    let of = c.requires.read.of in
    let given = c.args.self.given in
    let g = inputs_of3 (key_of c.args.key.now) _ _ _ _ (clean _ c.requires.inputs_good) in
    c.split_at_mut-front.ensures.front_len ∙ ap (λ n. 16 * n) (sym (opened_of _ given.e.now of g.good))

pub rest-requires-clause-out_long : goal.rest-requires-clause-out_long
rest-requires-clause-out_long c =
    let of = c.requires.read.of in
    let given = c.args.self.given in
    let g = inputs_of3 (key_of c.args.key.now) _ _ _ _ (clean _ c.requires.inputs_good) in
    let long = message3_length (key_of c.args.key.now) given.seeds.now given.secret.now given.e.now given.kappa.now g.seeds_long g.good in
    let k = c.args.k in
    let kept : count k.executions (λ j. not (opened given.e.now j)) ≡ k.executions - k.opened = kept_of _ given.e.now of g.good in
    let e : length c.split_at_mut-front.result.1.now ≡ 32 * count k.executions (λ j. not (opened given.e.now j)) + 32 = omega (arith, kept, c.split_at_mut-front.ensures.back_len, c.requires.out_long, long, of.τ_is, of.executions_is) in
    e

pub returns : goal.returns
returns c =
    let of = c.requires.read.of in
    let k = c.args.k in
    message3_of (key_of c.args.key.now) c.rest.ensures (sized_of of) (sym (k.deep.is _ (sym of.parties_is))) (sym of.executions_is) c.masters.ensures
