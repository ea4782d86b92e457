-- `dealt::dealt_outputs` meets its contract. Assumes nothing.
use Rattle.std.proofs.Common.{rules, arith, ◌≡◌, length}
use Rattle.response.proofs.Laws.{fills}
use Rattle.response.proofs.dealt.dealt_outputs.Goals as goal

pub returns : goal.returns
returns c =
    let a = c.args in
    let e = a.evaluation in
    let long : length c.fill.new.out ≡ e.m = search rules in
    fills e.modulus.q e.n e.m e.parties a.execution a.seed.now e.entries.now e.work.now a.outs.now
    (record {
      long = long;
      within = omega arith;
      filled = λ k h. let value = c.fill.ensures.filled k (omega (arith, h, long, c.fill.ensures.long)) in search rules;
    }) c.requires.outs_long (rw c.requires.nobody_hidden at c.outputs.ensures)
