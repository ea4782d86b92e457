-- `aes_wide::sixteen` meets its contract: after nine rounds of the keyed blocks, the last one is left. Assumes nothing.
use Rattle.std.proofs.Common.{◌∙◌, ap}
use Rattle.aes.specs.Fips197.{add_key}
use Rattle.aes_wide.specs.Wide.{lane}
use Rattle.aes_wide.proofs.Laws.{no_rounds, nine}
use Rattle.aes_wide.proofs.sixteen.Goals as goal

pub returns : goal.returns
returns c =
    let w = c.args.w.now in
    let u = c.add_key.new.r in
    let x = c.rounds_from.new.u in
    let rounded = c.rounds_from.ensures (lane u) (no_rounds w u c.add_key.ensures.long) in
    record {
      long = c.add_key-2.ensures.long;
      each =
          λ l h.
          c.add_key-2.ensures.each l h
          ∙ ap (add_key w 10) (c.sub_shift.ensures.each l h)
          ∙ nine w u x (lane c.args.s.now) c.add_key.ensures rounded l h;
    }
