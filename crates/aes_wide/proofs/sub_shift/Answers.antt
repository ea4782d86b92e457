use Rattle.std.proofs.Common.{◌+◌, ◌*◌, ◌%◌, ◌≤◌, ◌<◌, arith}
use Rattle.std.proofs.lemmas.Grind.{common_steps}
use Rattle.aes.specs.Fips197.{sub_bytes}
use Rattle.aes_wide.specs.Wide.{lane}
use Rattle.aes_wide.proofs.Laws.{row_more, row_next, row_filled, rows_end, sub_size, sub_value, flat_value}
use Rattle.aes_wide.proofs.sub_shift.Goals.{then-contains+else-loop-l-test, else-contains}
use Rattle.aes_wide.proofs.sub_shift.Goals as goal

pub loop-l-preserved : goal.loop-l-preserved
loop-l-preserved c =
    row_more c.loop-l.invariant c.loop-p-test.true c.loop-l-test.true
    (sub_value c.args.s.now c.loop-p.p c.loop-l.l c.sub.result c.loop-p-test.true c.sub.ensures)

pub loop-p-preserved : goal.loop-p-preserved
loop-p-preserved c =
    elim c.if-contains.branch [
      | then-contains+else-loop-l-test w ↦ rw w.r-is (row_next w.loop-l.invariant w.loop-l-test.false)
      | else-contains w ↦
          let p = c.loop-p.p in
          let from = (p + 4 * (p % 4)) % 16 in
          let x = w.sub-else-contains in
          let outside : c.args.differing.start ≤ from → from < c.args.differing.end → ⊥ = grind (arith, common_steps, c.contains.ensures.value, w.if-contains.false) in
          rw w.r-is
          (row_filled x.result c.loop-p.invariant c.loop-p-test.true (omega arith) (w.fill.ensures.after (λ y same. same))
          (λ l h. flat_value c.args.s.now p l x.result c.loop-p-test.true h (c.requires from (omega arith) outside) x.ensures))
    ]

pub returns : goal.returns
returns c = rows_end c.loop-p.invariant c.loop-p-test.false (λ k. sub_size (sub_bytes (lane c.args.s.now k)))
