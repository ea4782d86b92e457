-- Whole blocks are fed, then the rest.
use Rattle.std.proofs.Common.{◌*◌, ◌/◌, length, take, sym, refl, arith, length-take-le}
use Rattle.sha.specs.State.{fed_join}
use Rattle.sha.proofs.Laws.{fed_parts, front-whole, blocks_stand}
use Rattle.sha.proofs.Sha.aligned.Goals as goal

pub returns : goal.returns
returns c =
    let d = c.args.d.now in
    let n = length d / 64 * 64 in
    fed_parts _ _ d n (omega arith)
    (fed_join
    (record {
      stands = λ m w. blocks_stand c.args.self.now m (take n d) _ n _ (sym (length-take-le n d (omega arith))) c.requires (front-whole d) c.blocks-self.ensures refl w;
    })
    c.fill.ensures.fed)
