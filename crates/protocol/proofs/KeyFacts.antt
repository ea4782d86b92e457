-- What a key that is not refused satisfies.
-- Assumes nothing.
use Prim.Native.Nat.{ℕ, suc, ◌^◌, ◌<◌, ◌≤◌}
use mathlib.Core.Path.{◌≡◌, refl}
use mathlib.Core.List.{List}
use native.Mathlib.Omega.{arith}
use borrow.Author.Tests.{ltb-true, leb-true, not-false}
use lib.Dec.{ltb, leb}
use Rattle.lists.specs.Index.{count}
use Rattle.lists.specs.TestLaws.{Clean, Holds, every-at, holds-each}
use Rattle.numbers.specs.Inverse.{Member, Ns}
use Rattle.numbers.proofs.Inverse.{each}
use Rattle.protocol.specs.Key.{Key, t, entries, depth, limits, key_checks}
use Rattle.protocol.specs.Accepts.{GoodKey}

pub good : (K : Key) (x : List ℕ) → Clean (key_checks K x) → GoodKey K
unfolding key_checks limits
good K x c =
    let l : Holds (limits K) = holds-each (limits K) (not-false _ c.1.1.0) in
    record {
      q = record { listed = not-false _ c.1.0 };
      N = record { listed = l.1.1.1.1.1.0 };
      n_least = leb-true _ _ l.0;
      n_most = leb-true _ _ l.1.0;
      m_least = leb-true _ _ l.1.1.0;
      m_most = leb-true _ _ l.1.1.1.0;
      n_below = ltb-true _ _ l.1.1.1.1.0;
      executions_least = leb-true _ _ l.1.1.1.1.1.1.0;
      executions_most = leb-true _ _ l.1.1.1.1.1.1.1.0;
      τ_least = leb-true _ _ l.1.1.1.1.1.1.1.1.0;
      τ_below = ltb-true _ _ l.1.1.1.1.1.1.1.1.1.0;
      entry_lt = λ j h. ltb-true _ _ (every-at (entries K) (λ i. ltb (K.entry i) K.q) (not-false _ c.1.1.1.1.0) j h);
    }

-- A tree of that depth has N leaves.
pub depth_n : (K : Key) → Member K.N Ns → 2 ^ depth K ≡ K.N
unfolding depth count
depth_n K h = each (λ N. 2 ^ count 5 (λ d. leb (2 ^ suc d) N) ≡ N) Ns h (refl, (refl, (refl, (refl, (refl, tt)))))

pub depth_most : (K : Key) → Member K.N Ns → depth K ≤ 5
unfolding depth count
depth_most K h = each (λ N. count 5 (λ d. leb (2 ^ suc d) N) ≤ 5) Ns h (omega arith, (omega arith, (omega arith, (omega arith, (omega arith, tt)))))

-- Entries of t.
pub t_lt : (K : Key) → GoodKey K → (l : ℕ) → l < K.n → t K l < K.q
t_lt K G l h = G.entry_lt _ (omega arith)
