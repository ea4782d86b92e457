use Rattle.std.proofs.Common.{◌≡◌, ◌+◌, ◌*◌, ◌≤◌, length, take, sym, ◌∙◌, arith}
use Rattle.sha_core.specs.Fips180.{schedule}
use Rattle.sha_core.proofs.Laws.{schedule-front, grown_front, eight_turns}
use Rattle.sha_core.proofs.run.Goals.{then-t-ge16, else-t-ge16}
use Rattle.sha_core.proofs.run.Goals as goal

pub loop-i-preserved : goal.loop-i-preserved
loop-i-preserved c =
    let l = c.loop-i in
    let so = l.invariant in
    let t = 8 * l.i in
    let x = c.if-t-ge16.w in
    let b = c.args.b.now in
    let next : 8 * (l.i + 1) ≡ t + 8 = omega arith in
    let grown : (length x ≡ 64) × (take (t + 8) x ≡ schedule (t + 8) b) × (l.i + 1 ≤ 2 → take 16 x ≡ schedule 16 b) =
    elim c.if-t-ge16.branch [
      | then-t-ge16 w ↦
          let f = w.extend_eight.ensures b in
          rw w.w-is (f.long, f.words (so.later (omega arith)), λ h. absurd (omega arith))
      | else-t-ge16 w ↦
          rw w.w-is (so.long, grown_front b l.w t (omega arith) (so.early (omega arith)), λ h. so.early (omega arith))
    ] in
    let words : take (t + 8) x ≡ schedule (t + 8) b = grown.1 in
    record {
      long = grown.0;
      early = grown.2;
      later = λ h. rw next words;
      state =
          c.turns-v.ensures
          ∙ rw next
          (eight_turns _ t c.args.h x (schedule 64 b) l.v (omega arith) (omega arith) grown.0 (words ∙ sym (schedule-front (t + 8) 64 b (omega arith)))
          so.state);
    }

pub returns : goal.returns
returns c = let e : c.loop-i.i ≡ 8 = omega arith in rw e at c.loop-i.invariant.state
