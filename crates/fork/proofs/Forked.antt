-- Two accepted transcripts whose parts 1 to 5 are equal and whose hidden lists differ fork in the execution that the pair reader takes.
-- Assumes nothing.
use Prim.Native.Nat.{ℕ, ◌+◌, ◌≤◌, ◌<◌}
use mathlib.Core.Path.{◌≡◌, sym, ap, ◌∙◌, subst}
use mathlib.Core.Logic.{⊎_elim}
use mathlib.Core.Bool.{true, false}
use mathlib.Core.List.{List, [], ◌∷◌}
use native.Mathlib.Omega.{arith}
use lib.Dec.{ltb}
use lib.ListN.{length, get_or-eq_default}
use borrow.Author.Tests.{ltb-true, ltb-false}
use Rattle.lists.specs.Index.{same}
use Rattle.lists.specs.Check.{accepted, first}
use Rattle.lists.specs.TestLaws.{decide, same_eq, same_differ, holds-each}
use Rattle.numbers.specs.Sum.{sum}
use Rattle.numbers.specs.Inverse.{Member, qs, Ns}
use Rattle.numbers.proofs.Inverse.{parties_least}
use Rattle.protocol.specs.Key.{Key, kept_count, key_of}
use Rattle.protocol.specs.Prover.{opened, place, hidden_of}
use Rattle.protocol.specs.Transcript.{Parts, parts_of}
use Rattle.protocol.specs.Judge.{hidden, reply_size, run_checks}
use Rattle.protocol.specs.Pair.{execution, same_front}
use Rattle.protocol.specs.Accepts.{GoodKey, GoodParts}
use Rattle.protocol.proofs.Facts.{run_facts}
use Rattle.protocol.proofs.Demand3.{works}
use Rattle.key.specs.declared.sizes.Numbers.{Numbers}
use Rattle.key.specs.Numbers.{Read}
use Rattle.key.specs.KeyLaws.{entries_of}
use Rattle.transcript.specs.Replies.{reply-within}
use Rattle.fork.specs.Fork.{Forking}

-- The key that was read is good.
pub good_key : (x : List ℕ) (k : Numbers) → Read x k → GoodKey (key_of x)
good_key x k r =
    record {
      q = subst (λ (z : ℕ). Member z qs) r.of.q_is r.within.q_listed;
      n_least = omega (arith, r.of.n_is, r.within.n_least);
      n_most = omega (arith, r.of.n_is, r.within.n_most);
      m_least = omega (arith, r.of.m_is, r.within.m_least);
      m_most = omega (arith, r.of.m_is, r.within.m_most);
      n_below = omega (arith, r.of.n_is, r.of.m_is, r.within.n_below_m);
      N = subst (λ (z : ℕ). Member z Ns) r.of.parties_is r.within.parties_listed;
      executions_least = omega (arith, r.of.executions_is, r.within.executions_least);
      executions_most = omega (arith, r.of.executions_is, r.within.executions_most);
      τ_least = omega (arith, r.of.τ_is, r.within.τ_least);
      τ_below = omega (arith, r.of.τ_is, r.of.executions_is, r.within.τ_below_m);
      entry_lt = λ j h. omega (arith, r.of.q_is, r.below j (subst (λ (z : ℕ). j < z) (sym (entries_of k (key_of x) r.of)) h));
    }

-- A hidden party of good parts is one of the N.
hidden_below : (K : Key) (P : Parts) → 1 ≤ K.N → GoodParts K P → (e : ℕ) → hidden K P e < K.N
unfolding hidden hidden_of
hidden_below K P least p e =
    ⊎_elim
    (λ h. omega (arith, p.hidden_most (place P.p2 e) (ltb-true (place P.p2 e) (kept_count K) h)))
    (λ h. omega (arith, get_or-eq_default P.p6 0 {n = place P.p2 e} (omega (arith, p.long6, ltb-false (place P.p2 e) (kept_count K) h))))
    (decide (ltb (place P.p2 e) (kept_count K)))

reply_in : (K : Key) (P : Parts) (e : ℕ) → GoodParts K P → e < K.M → 16 + sum e (reply_size K P) + reply_size K P e ≤ length P.p7
reply_in K P e p h = omega (arith, p.long7, reply-within K P e K.M h)

pub forked : (K : Key) (x y : List ℕ) → GoodKey K → first (run_checks K x) ≡ accepted → first (run_checks K y) ≡ accepted
    → same_front K (parts_of x) (parts_of y) ≡ true → same (parts_of x).p6 (parts_of y).p6 ≡ false
    → Forking K (parts_of x) (parts_of y) (execution K (parts_of x) (parts_of y))
unfolding same_front
forked K x y key ax ay front differ =
    let P = parts_of x in
    let R = parts_of y in
    let p = (run_facts K x ax).1 in
    let r = (run_facts K y ay).1 in
    let same2 : P.p2 ≡ R.p2 = same_eq P.p2 R.p2 (holds-each (same P.p1 R.p1 ∷ same P.p2 R.p2 ∷ same P.p3 R.p3 ∷ same P.p4 R.p4 ∷ same P.p5 R.p5 ∷ []) front).1.0 in
    let w = works K P R key p r same2 (same_differ P.p6 R.p6 differ) in
    let least : 1 ≤ K.N = omega (arith, parties_least key.N) in
    record {
      within = w.within;
      kept-one = w.kept;
      kept_two = ap (λ (E : List ℕ). opened E (execution K P R)) (sym same2) ∙ w.kept;
      differ = w.differ;
      below_one = hidden_below K P least p (execution K P R);
      below_two = hidden_below K R least r (execution K P R);
      reply-one = reply_in K P (execution K P R) p w.within;
      reply_two = reply_in K R (execution K P R) r w.within;
    }
