-- `streams::two_blocks` meets its contract: two halves written one after the other. Assumes nothing.
use Rattle.std.proofs.Common.{◌+◌, refl, rules, replicate}
use Rattle.aes.specs.Fips197.{aes128}
use Rattle.streams.specs.Streams.{block}
use Rattle.streams.proofs.Laws.{both_halves}
use Rattle.streams.proofs.two_blocks.Goals as goal

pub returns : goal.returns
unfolding block aes128
returns c =
    let first = c.copy_from_slice in
    let second = c.copy_from_slice-2 in
    both_halves (block c.args.seed.now c.args.j) (block c.args.seed.now (c.args.j + 1)) first.new.self second.new.self (replicate 16 0) (cc) (cc) (search rules) refl
