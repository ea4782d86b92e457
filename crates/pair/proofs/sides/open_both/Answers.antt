-- `open_both` meets its contract. Assumes nothing.
use mathlib.Core.Path.{sym, ◌∙◌}
use Rattle.protocol.specs.Transcript.{parts_of}
use Rattle.key.specs.Numbers.{key_with}
use Rattle.joined.proofs.Joined.{joined_by}
use Rattle.pair.proofs.sides.open_both.Goals as goal

pub returns : goal.returns
returns c =
    let p = c.requires in
    let one = c.open_side.ensures.sided in
    let two = c.open_side-2.ensures.sided in
    record {
      written1 = one.written;
      written2 = two.written;
      joined =
          joined_by (key_with c.args.key.numbers c.args.key.entries.now) (parts_of c.args.run1.now) (parts_of c.args.run2.now) c.args.place.execution c.args.place.hidden1
          (sym p.sound.hides) p.sound.kept p.sound_2.kept p.sound.below (λ z. p.hidden_differ (z ∙ p.sound_2.hides)) _ _ _ _
          c.join_open.ensures c.join_party.ensures one.shown two.shown;
    }
