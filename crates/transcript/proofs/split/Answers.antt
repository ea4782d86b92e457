-- `split` lends part after part. Assumes nothing.
use Rattle.std.proofs.Common.{arith}
use Rattle.protocol.specs.Transcript.{parts_of}
use Rattle.transcript.proofs.Laws.{long_enough, cut_first, cut_room, cut_part, cut_next, cut_last}
use Rattle.transcript.proofs.split.Goals as goal

pub slice_bounds-split_at-count : goal.slice_bounds-split_at-count
slice_bounds-split_at-count c =
    long_enough _ _ _ c.requires c.sizes.ensures.value

pub slice_bounds-split_at-start : goal.slice_bounds-split_at-start
slice_bounds-split_at-start c =
    long_enough _ _ _ c.requires c.sizes.ensures.value

pub split_at-requires : goal.split_at-requires
split_at-requires c =
    cut_room _ _ _ c.requires c.sizes.ensures.value 0 (omega arith) (cut_first _ _ _ c.requires c.sizes.ensures.value)

pub split_at-requires-2 : goal.split_at-requires-2
split_at-requires-2 c =
    cut_room _ _ _ c.requires c.sizes.ensures.value 1 (omega arith) (cut_next _ _ _ c.requires c.sizes.ensures.value 0 (cut_first _ _ _ c.requires c.sizes.ensures.value) c.split_at.ensures.back)

pub split_at-requires-3 : goal.split_at-requires-3
split_at-requires-3 c =
    let r1 = cut_next _ _ _ c.requires c.sizes.ensures.value 0 (cut_first _ _ _ c.requires c.sizes.ensures.value) c.split_at.ensures.back in
    cut_room _ _ _ c.requires c.sizes.ensures.value 2 (omega arith) (cut_next _ _ _ c.requires c.sizes.ensures.value 1 r1 c.split_at-2.ensures.back)

pub split_at-requires-4 : goal.split_at-requires-4
split_at-requires-4 c =
    let r1 = cut_next _ _ _ c.requires c.sizes.ensures.value 0 (cut_first _ _ _ c.requires c.sizes.ensures.value) c.split_at.ensures.back in
    let r2 = cut_next _ _ _ c.requires c.sizes.ensures.value 1 r1 c.split_at-2.ensures.back in
    cut_room _ _ _ c.requires c.sizes.ensures.value 3 (omega arith) (cut_next _ _ _ c.requires c.sizes.ensures.value 2 r2 c.split_at-3.ensures.back)

pub split_at-requires-5 : goal.split_at-requires-5
split_at-requires-5 c =
    let r1 = cut_next _ _ _ c.requires c.sizes.ensures.value 0 (cut_first _ _ _ c.requires c.sizes.ensures.value) c.split_at.ensures.back in
    let r2 = cut_next _ _ _ c.requires c.sizes.ensures.value 1 r1 c.split_at-2.ensures.back in
    let r3 = cut_next _ _ _ c.requires c.sizes.ensures.value 2 r2 c.split_at-3.ensures.back in
    cut_room _ _ _ c.requires c.sizes.ensures.value 4 (omega arith) (cut_next _ _ _ c.requires c.sizes.ensures.value 3 r3 c.split_at-4.ensures.back)

pub split_at-requires-6 : goal.split_at-requires-6
split_at-requires-6 c =
    let r1 = cut_next _ _ _ c.requires c.sizes.ensures.value 0 (cut_first _ _ _ c.requires c.sizes.ensures.value) c.split_at.ensures.back in
    let r2 = cut_next _ _ _ c.requires c.sizes.ensures.value 1 r1 c.split_at-2.ensures.back in
    let r3 = cut_next _ _ _ c.requires c.sizes.ensures.value 2 r2 c.split_at-3.ensures.back in
    let r4 = cut_next _ _ _ c.requires c.sizes.ensures.value 3 r3 c.split_at-4.ensures.back in
    cut_room _ _ _ c.requires c.sizes.ensures.value 5 (omega arith) (cut_next _ _ _ c.requires c.sizes.ensures.value 4 r4 c.split_at-5.ensures.back)

pub returns : goal.returns
unfolding parts_of
returns c =
    let r0 = cut_first _ _ _ c.requires c.sizes.ensures.value in
    let r1 = cut_next _ _ _ c.requires c.sizes.ensures.value 0 r0 c.split_at.ensures.back in
    let r2 = cut_next _ _ _ c.requires c.sizes.ensures.value 1 r1 c.split_at-2.ensures.back in
    let r3 = cut_next _ _ _ c.requires c.sizes.ensures.value 2 r2 c.split_at-3.ensures.back in
    let r4 = cut_next _ _ _ c.requires c.sizes.ensures.value 3 r3 c.split_at-4.ensures.back in
    let r5 = cut_next _ _ _ c.requires c.sizes.ensures.value 4 r4 c.split_at-5.ensures.back in
    let r6 = cut_next _ _ _ c.requires c.sizes.ensures.value 5 r5 c.split_at-6.ensures.back in
    let p1 = cut_part _ _ _ c.requires c.sizes.ensures.value 0 (omega arith) r0 c.split_at.ensures.front in
    let p2 = cut_part _ _ _ c.requires c.sizes.ensures.value 1 (omega arith) r1 c.split_at-2.ensures.front in
    let p3 = cut_part _ _ _ c.requires c.sizes.ensures.value 2 (omega arith) r2 c.split_at-3.ensures.front in
    let p4 = cut_part _ _ _ c.requires c.sizes.ensures.value 3 (omega arith) r3 c.split_at-4.ensures.front in
    let p5 = cut_part _ _ _ c.requires c.sizes.ensures.value 4 (omega arith) r4 c.split_at-5.ensures.front in
    let p6 = cut_part _ _ _ c.requires c.sizes.ensures.value 5 (omega arith) r5 c.split_at-6.ensures.front in
    let p7 = cut_last _ _ _ c.requires c.sizes.ensures.value r6 in
    λ i. record { p1 = p1 i; p2 = p2 i; p3 = p3 i; p4 = p4 i; p5 = p5 i; p6 = p6 i; p7 = p7 i }
