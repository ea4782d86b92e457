-- `pi_input` meets its contract. Assumes nothing.
use Rattle.std.proofs.Common.{rules, ◌≡◌, ◌++◌, ◌*◌, ◌≤◌, ◌<◌, List, ℕ, refl, sym, ap, ap₂, ◌+◌, ◌∙◌, arith, length}
use Rattle.lists.specs.Tab.{start, more, done}
use Rattle.lists.specs.Written.{built_all, built_at, built_item, built_none}
use Rattle.views.proofs.Laws.{within}
use Rattle.execution_inputs.proofs.Laws.{pi_label, row_ends}
use Rattle.execution_inputs.proofs.pi_input.Goals as goal

pub loop-k-init : goal.loop-k-init
loop-k-init c = record { rows = built_at (omega arith) (built_none _ _); columns = start _ _ c.requires.sums_long }

pub loop-k-preserved : goal.loop-k-preserved
loop-k-preserved c =
    let l = c.loop-k in
    let a = c.args in
    let w = 4 * a.shares.parties in
    let turn : l.k < a.shares.m = search rules in
    let ends : w * l.k + w ≤ length l.rows = omega (arith, row_ends w a.shares.m l.k (w * l.k) refl turn, l.auto.rows, c.split_at_mut-rows.ensures.front_len) in
    record {
      rows = built_at (omega arith) (built_item w _ l.invariant.rows c.alpha_bytes.ensures.out_after (c.alpha_bytes.auto.out ∙ within l.rows (w * l.k) w ends));
      columns = more l.invariant.columns turn c.alpha_bytes.ensures.value;
    }

pub returns-clause-out_after : goal.returns-clause-out_after
returns-clause-out_after c =
    let l = c.loop-k in
    let s = c.args.shares in
    let e : l.k ≡ s.m = omega arith in
    let all : 4 * s.parties * s.m ≡ 4 * s.parties * l.k = ap (λ x. 4 * s.parties * x) (sym e) in
    ap₂ (λ (x y : List ℕ). x ++ y) (built_all l.invariant.rows e (omega (arith, c.split_at_mut-rows.ensures.front_len, all))) (c.copy_from_slice.ensures.after ∙ c.block_of.ensures) ∙ pi_label _ _

pub returns-clause-sums_after : goal.returns-clause-sums_after
returns-clause-sums_after c = done c.loop-k.invariant.columns (omega arith)
