-- `kept_round` meets its contract. Assumes nothing.
use mathlib.Core.Path.{◌≡◌, sym, ap, ◌∙◌, subst}
use Prim.Native.Nat.{ℕ, ◌+◌, ◌*◌, ◌-◌, ◌≤◌}
use native.Mathlib.Omega.{arith}
use mathlib.Core.List.{List}
use lib.ListN.{length, take}
use Rattle.std.specs.Prelude.{Err}
use Rattle.refusals.specs.Refused.{verdict_of}
use Rattle.walk.specs.Walk.{Stepped, put}
use borrow.Author.Rules.{rules}
use Rattle.walk.proofs.Laws.{depth_most, rank_most, place_below, hidden_least, hid_below, end_inside, replies_least, given_is, tests_are, kept_step}
use Rattle.walk.proofs.round.kept_round.Goals as goal

pub overflow_sub-place : goal.overflow_sub-place
overflow_sub-place c = rank_most c.args.run.stood (c.requires.reached _ _ c.args.run.stood) c.requires.e_lt_executions c.requires.e_kept

pub overflow_sub-hidden : goal.overflow_sub-hidden
overflow_sub-hidden c = omega (arith, hidden_least c.args.run.stood (c.requires.reached _ _ c.args.run.stood) c.requires.e_lt_executions c.requires.e_kept, c.hidden_at-hidden.ensures)

pub reply_length-requires-clause-depth_bound : goal.reply_length-requires-clause-depth_bound
reply_length-requires-clause-depth_bound c = depth_most c.args.run.stood

pub reply_length-requires-clause-hidden_lt_parties : goal.reply_length-requires-clause-hidden_lt_parties
reply_length-requires-clause-hidden_lt_parties c = hid_below c.args.run.stood (c.requires.reached _ _ c.args.run.stood) c.requires.e_lt_executions c.requires.e_kept c.hidden_at-hidden.ensures

pub overflow_add-end : goal.overflow_add-end
overflow_add-end c = omega (arith, end_inside c.args.run.stood (c.requires.reached _ _ c.args.run.stood) c.requires.e_lt_executions c.requires.e_kept c.hidden_at-hidden.ensures c.reply_length.ensures)

pub unwrap-kappa-requires : goal.unwrap-kappa-requires
unwrap-kappa-requires c = let long : 16 ≤ length c.args.run.parts.p7.now = replies_least c.args.run.stood in search rules

pub slice_bounds-kept_execution-end : goal.slice_bounds-kept_execution-end
slice_bounds-kept_execution-end c = end_inside c.args.run.stood (c.requires.reached _ _ c.args.run.stood) c.requires.e_lt_executions c.requires.e_kept c.hidden_at-hidden.ensures c.reply_length.ensures

pub kept_execution-v-requires-clause-hidden_lt_parties : goal.kept_execution-v-requires-clause-hidden_lt_parties
kept_execution-v-requires-clause-hidden_lt_parties c = hid_below c.args.run.stood (c.requires.reached _ _ c.args.run.stood) c.requires.e_lt_executions c.requires.e_kept c.hidden_at-hidden.ensures

pub kept_execution-v-requires-clause-given : goal.kept_execution-v-requires-clause-given
kept_execution-v-requires-clause-given c = given_is c.args.run.stood (c.requires.reached _ _ c.args.run.stood) c.requires.e_lt_executions c.requires.e_kept c.hidden_at-hidden.ensures c.reply_length.ensures

pub slice_bounds-omega_good-end : goal.slice_bounds-omega_good-end
slice_bounds-omega_good-end c = omega (arith, place_below c.args.run.stood (c.requires.reached _ _ c.args.run.stood) c.requires.e_lt_executions c.requires.e_kept, c.args.run.p3_long)

pub omega_good-good-requires : goal.omega_good-good-requires
omega_good-good-requires c = hid_below c.args.run.stood (c.requires.reached _ _ c.args.run.stood) c.requires.e_lt_executions c.requires.e_kept c.hidden_at-hidden.ensures

pub returns-in_err-check_kept-clause-verdict : goal.returns-in_err-check_kept-clause-verdict
returns-in_err-check_kept-clause-verdict c =
    let kappa : c.unwrap-kappa.result.now ≡ take 16 c.args.run.parts.p7.now = search rules in
    let seed : c.unwrap-seed.result.now ≡ c.args.run.parts.p4.now = search rules in
    let is : c.from_residual.result ≡ Err c.in_err-check_kept.field-0.0 = search rules in
    λ K P so. ap verdict_of is ∙ c.in_err-check_kept.ensures ∙ tests_are so (c.requires.reached K P so) c.requires.e_lt_executions c.requires.e_kept c.hidden_at-hidden.ensures c.reply_length.ensures kappa seed (c.kept_execution-v.ensures.evaluates K P) c.omega_good-good.ensures

pub put_digest-requires-3 : goal.put_digest-requires-3
put_digest-requires-3 c = omega (arith, place_below c.args.run.stood (c.requires.reached _ _ c.args.run.stood) c.requires.e_lt_executions c.requires.e_kept, c.requires.lists_long, c.put_digest.ensures.lists_len_unchanged, c.put_digest-2.ensures.lists_len_unchanged)

pub returns-clause-verdict : goal.returns-clause-verdict
returns-clause-verdict c =
    let kappa : c.unwrap-kappa.result.now ≡ take 16 c.args.run.parts.p7.now = search rules in
    let seed : c.unwrap-seed.result.now ≡ c.args.run.parts.p4.now = search rules in
    λ K P so. c.in_ok-check_kept.ensures ∙ tests_are so (c.requires.reached K P so) c.requires.e_lt_executions c.requires.e_kept c.hidden_at-hidden.ensures c.reply_length.ensures kappa seed (c.kept_execution-v.ensures.evaluates K P) c.omega_good-good.ensures

pub returns-clause-stepped : goal.returns-clause-stepped
returns-clause-stepped c =
    let kappa : c.unwrap-kappa.result.now ≡ take 16 c.args.run.parts.p7.now = search rules in
    let seed : c.unwrap-seed.result.now ≡ c.args.run.parts.p4.now = search rules in
    let h : length c.kept_execution-v.result.h ≡ 32 = search rules in
    let pi : length c.kept_execution-v.result.pi ≡ 32 = search rules in
    let psi : length c.kept_execution-v.result.psi ≡ 32 = search rules in
    let lists : c.put_digest-3.new.lists ≡ put (put (put c.args.lists.now (32 * c.args.e) 32 c.kept_execution-v.result.h) (32 * c.args.run.executions + 32 * (c.args.e - c.args.here.rank)) 32 c.kept_execution-v.result.pi) (32 * c.args.run.executions + 32 * (c.args.run.executions - c.args.run.openings) + 32 * (c.args.e - c.args.here.rank)) 32 c.kept_execution-v.result.psi =
    rw (c.put_digest-3.ensures.put, c.put_digest-2.ensures.put, c.put_digest.ensures.put) in
    λ K P so.
    subst (λ (l : List ℕ). Stepped K P c.args.e c.args.here.rank (c.args.here.at + c.reply_length.result) c.args.lists.now l) (sym lists)
    (kept_step so (c.requires.reached K P so) c.requires.e_lt_executions c.requires.e_kept c.hidden_at-hidden.ensures c.reply_length.ensures kappa seed (c.kept_execution-v.ensures.evaluates K P) c.omega_good-good.ensures h pi psi c.requires.lists_long)
