use Rattle.std.proofs.Common.{◌≡◌, sym, ◌∙◌, arith, length, length-append, ap, ◌+◌, ◌*◌, ◌-◌}
use Rattle.std.proofs.Math.Seq.{take_all}
use Rattle.aes.specs.Fips197.{word, xor_word, key_expansion}
use Rattle.aes.proofs.Laws.{key_stored, stored_long, word_stored, next_word, recounted, temp_is}
use Rattle.aes.proofs.expand.Goals as goal

pub loop-r-init : goal.loop-r-init
loop-r-init c =
    let first = c.copy_from_slice in
    record {
      long = simp length-append (omega (arith, first.ensures.len));
      so_far = key_stored c.args.key first.new.self _ first.ensures.after first.ensures.len;
      last = c.word-temp.ensures;
    }

pub loop-k-preserved : goal.loop-k-preserved
loop-k-preserved c =
    let r = c.loop-r.r in
    let k = c.loop-k.k in
    let n = 4 * r + k in
    let w = c.loop-k.w in
    let so = c.loop-k.invariant in
    let next = c.copy_from_slice-in-loop-k in
    let long : length w ≡ 176 = so.long in
    let four : length next.new.self ≡ 4 = omega (arith, next.ensures.len) in
    record {
      long = stored_long w next.new.self (16 + 4 * n) (16 + 4 * n + 4 - (16 + 4 * n)) (omega arith) (omega arith) ∙ long;
      so_far =
          recounted _ c.args.key (n + 1) (4 * r + (k + 1)) (omega arith)
          (next_word w c.args.key next.new.self _ n (omega arith) so.so_far
          (next.ensures.after
          ∙ c.xor_word-temp.ensures
          ∙ ap (λ t. xor_word t c.loop-k.temp) c.word.ensures
          ∙ ap (xor_word (word w n)) (temp_is w c.loop-k.temp r k c.loop-k-test.true so.first so.later)));
      first = λ start. absurd (omega arith);
      later = λ past. sym next.ensures.after ∙ word_stored w next.new.self _ n (4 * r + (k + 1) + 3) (omega arith) four (omega arith);
    }

pub returns : goal.returns
unfolding key_expansion
returns c =
    let all : c.loop-r.r ≡ 10 = omega arith in
    let whole = rw all at c.loop-r.invariant.so_far in
    sym (take_all 176 c.loop-r.w (omega arith)) ∙ whole
