-- `locate` meets its contract: the execution is there, since the two transcripts fork. Assumes nothing.
use Rattle.std.proofs.Common.{sym, ◌∙◌, ap, arith}
use Rattle.std.proofs.lemmas.Bool.{some_since}
use Rattle.std.proofs.lemmas.Option.{MatchOption-at_some}
use Rattle.protocol.specs.Transcript.{Parts, parts_of}
use Rattle.key.specs.Numbers.{key_with, of_with}
use Rattle.fork.specs.Fork.{accepted_headed}
use Rattle.fork.proofs.Forked.{forked}
use Rattle.pair.proofs.Answering.{seconds_equal, sound_one, sound_two, hide_others}
use Rattle.pair.proofs.Laws.{located}
use Rattle.pair.proofs.place.locate.Goals as goal

pub split-one-requires : goal.split-one-requires
split-one-requires c =
    let k = c.args.key.numbers in
    let K = key_with k c.args.key.entries.now in
    (accepted_headed k K c.args.run1.now (of_with k c.args.key.entries.now) c.requires.first_good).good

pub split-two-requires : goal.split-two-requires
split-two-requires c =
    let k = c.args.key.numbers in
    let K = key_with k c.args.key.entries.now in
    (accepted_headed k K c.args.run2.now (of_with k c.args.key.entries.now) c.requires.second_good).good

pub unwrap-execution-requires : goal.unwrap-execution-requires
unwrap-execution-requires c =
    let k = c.args.key.numbers in
    let K = key_with k c.args.key.entries.now in
    let P = parts_of c.args.run1.now in
    let R = parts_of c.args.run2.now in
    let f = c.requires in
    let x2 = sym (ap (λ (P : Parts). P.p2) c.split-one.ensures) in
    let x6 = sym (ap (λ (P : Parts). P.p6) c.split-one.ensures) in
    let y6 = sym (ap (λ (P : Parts). P.p6) c.split-two.ensures) in
    let y2 = sym (seconds_equal K P R f.fronts) ∙ x2 in
    some_since _ _ _ (c.execution_of.ensures.value K P R (of_with k c.args.key.entries.now) x2 x6 y2 y6)
    (λ e. omega (arith, e, (forked K c.args.run1.now c.args.run2.now f.key f.first_good f.second_good f.fronts f.hidden_differ).within))

pub returns : goal.returns
returns c =
    let k = c.args.key.numbers in
    let K = key_with k c.args.key.entries.now in
    let P = parts_of c.args.run1.now in
    let R = parts_of c.args.run2.now in
    let x2 = sym (ap (λ (P : Parts). P.p2) c.split-one.ensures) in
    let x6 = sym (ap (λ (P : Parts). P.p6) c.split-one.ensures) in
    let z2 = sym (ap (λ (P : Parts). P.p2) c.split-two.ensures) in
    let y6 = sym (ap (λ (P : Parts). P.p6) c.split-two.ensures) in
    let y2 = sym (seconds_equal K P R c.requires.fronts) ∙ x2 in
    let l =
    located K c.args.run1.now c.args.run2.now x2 x6 z2 y6
    (MatchOption-at_some _ _ _ c.unwrap-execution.ensures (c.execution_of.ensures.value K P R (of_with k c.args.key.entries.now) x2 x6 y2 y6))
    c.hidden_of.ensures c.hidden_of-2.ensures in
    record {
      located = l;
      sound = sound_one k c.args.key.entries.now c.args.run1.now c.args.run2.now c.requires l;
      sound_2 = sound_two k c.args.key.entries.now c.args.run1.now c.args.run2.now c.requires l;
      hidden_differ = hide_others k c.args.key.entries.now c.args.run1.now c.args.run2.now c.requires l;
    }
