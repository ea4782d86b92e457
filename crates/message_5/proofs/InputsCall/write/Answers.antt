-- `write` reads A and t and copies hψ. Assumes nothing.
use Rattle.std.proofs.Common.{◌≡◌, ◌*◌, sym, ap, ◌∙◌, rules, length, drop}
use Rattle.lists.specs.TestLaws.{clean}
use Rattle.protocol.specs.Key.{entries, key_of}
use Rattle.protocol.proofs.Sizes.{message5_length}
use Rattle.prover.proofs.Laws.{inputs_of5}
use Rattle.message_5.proofs.Laws.{keyed_of}
use Rattle.message_5.proofs.InputsCall.write.Goals as goal

pub invariant_of-materials : goal.invariant_of-materials
invariant_of-materials c =
    let of = c.requires.read.of in
    let g = inputs_of5 (key_of c.args.key.now) _ _ _ _ _ (clean _ c.requires.inputs_good) in
    record { seeds_long = g.0.seeds_long ∙ ap (λ n. 16 * n) (sym of.executions_is); secret_long = g.0.secret_long ∙ sym of.m_is; kappa_long = g.0.κ_long }

pub unwrap-requires : goal.unwrap-requires
unwrap-requires c =
    let of = c.requires.read.of in
    let g = inputs_of5 (key_of c.args.key.now) _ _ _ _ _ (clean _ c.requires.inputs_good) in
    let long : length c.args.self.seed.now ≡ 16 = g.1 in
    search rules

pub copy_from_slice-requires : goal.copy_from_slice-requires
copy_from_slice-requires c =
    let given = c.args.self.given in
    let long : length c.args.out.now ≡ 32 = c.requires.out_long ∙ message5_length (key_of c.args.key.now) given.seeds.now given.secret.now given.e.now given.kappa.now c.args.self.seed.now in
    search rules

pub returns : goal.returns
returns c =
    let read = c.requires.read in
    let L : c.unwrap.result.now ≡ c.args.self.seed.now = search rules in
    let d = c.h_psi.ensures.is _ (keyed_of _ _ (drop (entries (key_of c.args.key.now)) c.args.entries.now) read c.args.k.deep c.entries.ensures) (sym read.of.executions_is) in
    c.copy_from_slice.ensures.after ∙ rw L at d
