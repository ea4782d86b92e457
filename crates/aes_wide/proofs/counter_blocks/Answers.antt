-- `aes_wide::counter_blocks` meets its contract: where byte 15 does not overflow, the blocks differ in it only. Assumes nothing.
use Rattle.std.proofs.Common.{◌∙◌, ap}
use Rattle.aes.specs.Fips197.{rounds, cipher}
use Rattle.aes_wide.specs.Wide.{lane, Lanes}
use Rattle.aes_wide.proofs.Laws.{flat_counters, flat_key, no_rounds, nine}
use Rattle.aes_wide.proofs.counter_blocks.Goals.{then-j-lt241, else-j-lt241}
use Rattle.aes_wide.proofs.counter_blocks.Goals as goal

pub close_rounds-requires : goal.close_rounds-requires
close_rounds-requires c =
    flat_key c.args.w.now c.counters.new.r c.add_key.new.r c.add_key.ensures
    (flat_counters c.counters.new.r c.args.j c.counters.ensures c.if-j-lt241.true)

pub returns : goal.returns
returns c =
    let w = c.args.w.now in
    let u = c.add_key.new.r in
    let x = c.if-j-lt241.u in
    let rounded : Lanes x (λ l. rounds w 9 (lane u l)) =
    elim c.if-j-lt241.branch [
      | then-j-lt241 b ↦ rw b.u-is b.close_rounds.ensures
      | else-j-lt241 b ↦ rw b.u-is (b.rounds_from.ensures (lane u) (no_rounds w u c.add_key.ensures.long))
    ] in
    record {
      each =
          λ l h.
          c.last_blocks.ensures.each l h
          ∙ nine w u x (lane c.counters.new.r) c.add_key.ensures rounded l h
          ∙ ap (cipher w) (c.counters.ensures.each l h);
    }
