-- `opened_round` meets its contract. Assumes nothing.
use Prim.Native.Nat.{ℕ, ◌+◌, ◌*◌, ◌-◌}
use mathlib.Core.Path.{◌≡◌, sym, subst}
use mathlib.Core.List.{List}
use lib.ListN.{length, take, drop}
use borrow.Author.Rules.{rules}
use Rattle.views.specs.Opened.{OpenedHash}
use Rattle.walk.specs.Walk.{Stepped}
use native.Mathlib.Omega.{arith}
use Rattle.walk.proofs.Laws.{rank_below, opened_step}
use Rattle.walk.proofs.round.opened_round.Goals as goal

pub overflow_mul-from : goal.overflow_mul-from
overflow_mul-from c = omega (arith, rank_below c.args.run.stood (c.requires.reached _ _ c.args.run.stood) c.requires.e_lt_executions c.requires.e_opened, c.args.run.executions_most, c.args.run.openings_below)

pub overflow_add-from : goal.overflow_add-from
overflow_add-from c = omega (arith, rank_below c.args.run.stood (c.requires.reached _ _ c.args.run.stood) c.requires.e_lt_executions c.requires.e_opened, c.args.run.executions_most, c.args.run.openings_below)

pub slice_bounds-try_into-end : goal.slice_bounds-try_into-end
slice_bounds-try_into-end c = omega (arith, rank_below c.args.run.stood (c.requires.reached _ _ c.args.run.stood) c.requires.e_lt_executions c.requires.e_opened, c.args.run.p3_long)

pub returns-clause-stepped : goal.returns-clause-stepped
returns-clause-stepped c =
    let master : c.unwrap-master.result.now ≡ take (16 * c.args.here.rank + 16 - 16 * c.args.here.rank) (drop (16 * c.args.here.rank) c.args.run.parts.p3.now) = search rules in
    let long : length c.opened_hash-h.result ≡ 32 = search rules in
    let d = c.args.run.statement in
    let made : OpenedHash d.modulus.q d.m d.parties d.depth c.args.e (take (16 * c.args.here.rank + 16 - 16 * c.args.here.rank) (drop (16 * c.args.here.rank) c.args.run.parts.p3.now)) c.opened_hash-h.result =
    subst (λ (l : List ℕ). OpenedHash d.modulus.q d.m d.parties d.depth c.args.e l c.opened_hash-h.result) master c.opened_hash-h.ensures.opened_hash in
    λ K P so.
    subst (λ (l : List ℕ). Stepped K P c.args.e (c.args.here.rank + 1) c.args.here.at c.args.lists.now l) (sym c.put_digest.ensures.put)
    (opened_step so (c.requires.reached K P so) c.requires.e_lt_executions c.requires.e_opened long c.requires.lists_long made)
