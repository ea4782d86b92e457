-- Lists that are filled from an execution's part of part 7 hold the execution that the judge sees.
-- Assumes nothing.
use Prim.Native.Nat.{ℕ, suc, ◌+◌, ◌*◌, ◌-◌, ◌^◌, ◌<◌, ◌≤◌}
use mathlib.Core.Path.{◌≡◌, refl, sym, ◌∙◌, ap, subst}
use mathlib.Core.List.{List}
use native.Mathlib.Omega.{arith}
use borrow.Author.Tests.{ne_eqb}
use lib.ListN.{length, get_or, take, drop, length-drop}
use lib.Seq.{length-take-le, take_all}
use Rattle.lists.specs.Index.{cat, part}
use Rattle.lists.specs.Bytes.{num}
use Rattle.tree.specs.Tree.{reopened}
use Rattle.tree.specs.TreeLaws.{reopened-length}
use Rattle.protocol.specs.Key.{Key, depth}
use Rattle.protocol.specs.Transcript.{Parts}
use Rattle.protocol.specs.Judge.{hidden, reply_at, given, kept_view}
use Rattle.execution.specs.Shown.{Seeded, Shown, place_of}
use Rattle.execution.specs.Lists.{Put, Drawn, Reduced}
use Rattle.execution.specs.Prepared.{Kept, Given, last_count, given_of}
use Rattle.execution.proofs.Dealt.{with_key, drawn_put, reduced_by, seed_at, shown_by}

-- what follows n entries
pub rest_is : (n : ℕ) (xs : List ℕ) → take (length xs - n) (drop n xs) ≡ drop n xs
rest_is n xs = take_all (length xs - n) (drop n xs) (simp length-drop (omega arith))

-- the seeds were reopened, the open parties drew their numbers, and party N's were read
pub record Reopened (q m N D hid : ℕ) (reply leaves one two : List ℕ) : Type 0 where
  pub full : 2 ^ D ≡ N
  pub long : 16 * D ≤ length reply
  pub made : leaves ≡ cat (2 ^ D) (reopened D hid (take (16 * D) reply))
  pub drawn : Drawn q m N hid (3 * m) leaves one N
  pub put : Put (3 * m * (N - 1) + m) (last_count m N hid) (λ j. num (given_of D reply) (m + 1 + j)) one two

pub is_reopened : {q m N D hid : ℕ} {reply leaves one two : List ℕ} → 2 ^ D ≡ N → 16 * D ≤ length reply
    → leaves ≡ cat (2 ^ D) (reopened D hid (take (16 * D) reply)) → Drawn q m N hid (3 * m) leaves one N
    → Put (3 * m * (N - 1) + m) (last_count m N hid) (λ j. num (take (length reply - (16 * D + 32)) (drop (16 * D + 32) reply)) (m + 1 + j)) one two
    → Reopened q m N D hid reply leaves one two
is_reopened {D = D} {reply = reply} full long made drawn put =
    record { full = full; long = long; made = made; drawn = drawn; put = rw (rest_is (16 * D + 32) reply) at put }

module _ (K : Key) (P : Parts) (e : ℕ) (leaves one two : List ℕ)
    (so : Reopened K.q K.m K.N (depth K) (hidden K P e) (reply_at K P e) leaves one two) where
  kept_seeds : Seeded K (kept_view K P e) leaves
  unfolding kept_view
  kept_seeds =
      record {
        at = λ i h other.
            ap (λ x. part x (16 * i) 16) so.made
            ∙ seed_at (2 ^ depth K) (reopened (depth K) (hidden K P e) (take (16 * depth K) (reply_at K P e)))
            (λ j k. reopened-length (depth K) (hidden K P e) (take (16 * depth K) (reply_at K P e)) j (length-take-le (16 * depth K) (reply_at K P e) so.long))
            i (subst (λ (x : ℕ). i < x) (sym so.full) h);
      }

  -- number j of the d and s of party N
  kept-last : (j n : ℕ) → (suc (hidden K P e) ≡ K.N → ⊥) → K.m + j ≡ n → j < 2 * K.m → get_or two (place_of K.m (K.N - 1) n) 0 ≡ given K P e (K.m + 1 + j)
  unfolding given
  kept-last j n other z h =
      let at : 3 * K.m * (K.N - 1) + n ≡ 3 * K.m * (K.N - 1) + K.m + j = omega arith in
      ap (λ x. get_or two x 0) at ∙ so.put.at j (rw (ne_eqb (suc (hidden K P e)) K.N other) h)

  kept-shown : Shown K (kept_view K P e) leaves two
  unfolding kept_view
  kept-shown =
      shown_by K (kept_view K P e) leaves two kept_seeds (drawn_put (omega arith) (omega arith) so.put so.drawn)
      (λ other k h. kept-last k (K.m + k) other refl (omega arith))
      (λ other k h.
      let at : K.m + 1 + (K.m + k) ≡ 2 * K.m + 1 + k = omega arith in
      kept-last (K.m + k) (2 * K.m + k) other (omega arith) (omega arith) ∙ ap (given K P e) at)

pub all_kept : {q m N D hid : ℕ} {reply leaves one two : List ℕ} → Reopened q m N D hid reply leaves one two → Kept q m N D hid reply leaves two
all_kept {q} {m} {N} {D} {hid} {reply} {leaves} {one} {two} so =
    record {
      shown = λ K P e sized deep hides at.
          kept-shown K P e leaves one two
          (with_key sized (λ q m N. Reopened q m N (depth K) (hidden K P e) (reply_at K P e) leaves one two)
          (subst (λ (x : ℕ). Reopened q m N x (hidden K P e) (reply_at K P e) leaves one two) (sym deep)
          (subst (λ (x : ℕ). Reopened q m N D x (reply_at K P e) leaves one two) (sym hides)
          (subst (λ (x : List ℕ). Reopened q m N D hid x leaves one two) (sym at) so))));
    }

-- and all its numbers are below q
pub kept_reduced : {q m N D hid : ℕ} {reply leaves one two : List ℕ} → 0 < q → Reopened q m N D hid reply leaves one two → Given q m N D hid reply
    → Reduced q m N hid two
kept_reduced {q} {m} {N} {D} {hid} {reply} {leaves} {one} {two} pos so low =
    reduced_by pos (drawn_put (omega arith) (omega arith) so.put so.drawn)
    (λ other j least most.
    let at : 3 * m * (N - 1) + j ≡ 3 * m * (N - 1) + m + (j - m) = omega arith in
    let e : get_or two (place_of m (N - 1) j) 0 ≡ num (given_of D reply) (m + 1 + (j - m)) =
    ap (λ x. get_or two x 0) at ∙ so.put.at (j - m) (rw (ne_eqb (suc hid) N other) (omega arith)) in
    subst (λ (x : ℕ). x < q) (sym e) (low.below (m + 1 + (j - m)) (rw (ne_eqb (suc hid) N other) (omega arith))))
