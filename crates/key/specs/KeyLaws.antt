-- What the acceptance of a key says: its limits, its length, its entries; and the key that upper layers compute with is the key that was read.
-- Assumes nothing.
use Rattle.std.specs.Prelude.{ℕ, suc, ◌+◌, ◌*◌, ◌^◌, ◌≤◌, ◌<◌, ◌≡◌, true, List, ltb, leb, length, get_or}
use Rattle.std.proofs.Common.{sym, ap, ◌∙◌, subst, ⊎_elim, mul-le-mul, arith, ltb-true, ltb-false, leb-true, eqb-true}
use Rattle.std.proofs.Math.ListN.{get_or-eq_default}
use Rattle.std.proofs.lemmas.Bool.{not-false}
use Rattle.lists.specs.Tab.{tab, tab-at, tab-length}
use Rattle.lists.specs.Index.{count, member, holds}
use Rattle.lists.specs.Bytes.{num}
use Rattle.lists.specs.Check.{accepted, first}
use Rattle.lists.specs.TestLaws.{decide, every-at, Holds, holds-each, Clean, clean}
use Rattle.lists.specs.CatLaws.{num_past}
use Rattle.numbers.specs.Inverse.{Member, qs, Ns}
use Rattle.numbers.proofs.Inverse.{parties_least, parties_most}
use Rattle.refusals.specs.Number.{number_of, none_applies}
use Rattle.protocol.specs.Key.{Key, entries, depth, key_of, limits, key_checks}
use Rattle.key.specs.declared.sizes.Numbers.{Numbers}
use Rattle.key.specs.Limits.{Limits}
use Rattle.key.specs.Numbers.{Of, Alike, Read, key_with}

-- The number 0 is given to an accepted key alone.
pub key_accepted : (x : List ℕ) → number_of (first (key_checks (key_of x) x)) ≡ 0 → first (key_checks (key_of x) x) ≡ accepted
unfolding key_checks
key_accepted x e =
    none_applies (key_checks (key_of x) x) (omega arith, (omega arith, (omega arith, (omega arith, (omega arith, tt))))) e

pub member_of : {x y : ℕ} {l : List ℕ} → x ≡ y → member y l ≡ true → Member x l
member_of {x} {y} {l} e h = subst (λ (z : ℕ). Member z l) (sym e) (record { listed = h })

-- The limits of a key whose tests hold.
pub limits_held : (K : Key) → member K.q qs ≡ true → holds (limits K) ≡ true → Limits K.q K.n K.m K.N K.M K.τ
unfolding limits
limits_held K q h = go (holds-each (limits K) h)
  where
    go : Holds (limits K) → Limits K.q K.n K.m K.N K.M K.τ
    go l =
        let parties : Member K.N Ns = record { listed = l.1.1.1.1.1.0 } in
        record {
          q_listed = record { listed = q };
          n_least = leb-true 1 K.n l.0;
          n_most = leb-true K.n 32 l.1.0;
          m_least = leb-true 2 K.m l.1.1.0;
          m_most = leb-true K.m 128 l.1.1.1.0;
          n_below_m = ltb-true K.n K.m l.1.1.1.1.0;
          parties_listed = parties;
          parties_least = parties_least parties;
          parties_most = parties_most parties;
          executions_least = leb-true 2 K.M l.1.1.1.1.1.1.0;
          executions_most = leb-true K.M 32 l.1.1.1.1.1.1.1.0;
          τ_least = leb-true 1 K.τ l.1.1.1.1.1.1.1.1.0;
          τ_below_m = ltb-true K.τ K.M l.1.1.1.1.1.1.1.1.1.0;
        }

-- Those of the numbers that code carries stand with them.
pub limits_of : (k : Numbers) (K : Key) → Of k K → member K.q qs ≡ true → holds (limits K) ≡ true → Limits k.modulus.q k.n k.m k.parties k.executions k.opened
limits_of k K of q h = k.limits

-- An accepted key's numbers are within the limits.
pub limits_accepted : (x : List ℕ) → first (key_checks (key_of x) x) ≡ accepted → Limits (key_of x).q (key_of x).n (key_of x).m (key_of x).N (key_of x).M (key_of x).τ
unfolding key_checks
limits_accepted x e =
    let c : Clean (key_checks (key_of x) x) = clean (key_checks (key_of x) x) e in
    limits_held (key_of x) (not-false _ c.1.0) (not-false _ c.1.1.0)

-- The numbers of k and of K give one count of entries.
pub entries_of : (k : Numbers) (K : Key) → Of k K → k.n * (k.m + 1) ≡ entries K
entries_of k K of = rw (of.n_is, of.m_is)

-- Of any keys of the same numbers.
pub entries_alike : {J K : Key} → Alike J K → entries J ≡ entries K
entries_alike same = rw (same.n_same, same.m_same)

pub entries_most : (n m : ℕ) → n ≤ 32 → m ≤ 128 → n * (m + 1) ≤ 4128
entries_most n m h l = mul-le-mul {n₁ = n} {m₁ = m + 1} {n₂ = 32} {m₂ = 129} h (omega arith)

-- An accepted key has 24 bytes and more, and what was read of it is as `Read` says.
pub key_long : (x : List ℕ) → first (key_checks (key_of x) x) ≡ accepted → 24 ≤ length x
unfolding key_checks
key_long x e = ltb-false (length x) 24 (clean (key_checks (key_of x) x) e).0

pub read_of : (x : List ℕ) (k : Numbers) → first (key_checks (key_of x) x) ≡ accepted → Of k (key_of x) → Read x k
unfolding key_checks
read_of x k e of =
    let c : Clean (key_checks (key_of x) x) = clean (key_checks (key_of x) x) e in
    let size : k.n * (k.m + 1) ≡ entries (key_of x) = entries_of k (key_of x) of in
    record {
      of = of;
      within = k.limits;
      long = eqb-true (length x) (24 + 4 * entries (key_of x)) (not-false _ c.1.1.1.0) ∙ ap (λ (j : ℕ). 24 + 4 * j) (sym size);
      below = λ j h.
          subst (λ (q : ℕ). (key_of x).entry j < q) (sym of.q_is)
          (ltb-true _ _ (every-at (entries (key_of x)) (λ i. ltb ((key_of x).entry i) (key_of x).q) (not-false _ c.1.1.1.1.0) j (omega arith)));
    }

-- The key of the numbers that were read and of the list of its entries is the key: past the end of A and t both give 0.
pub key_is : (x : List ℕ) (k : Numbers) → Read x k → key_with k (tab (entries (key_of x)) (key_of x).entry) ≡ key_of x
unfolding key_of
key_is x k r = λ i. record { q = r.of.q_is i; n = r.of.n_is i; m = r.of.m_is i; N = r.of.parties_is i; M = r.of.executions_is i; τ = r.of.τ_is i; entry = λ j. same j i }
  where
    count : ℕ
    count = entries (key_of x)

    same : (j : ℕ) → get_or (tab count (key_of x).entry) j 0 ≡ num x (6 + j)
    same j =
        ⊎_elim (λ h. tab-at count (key_of x).entry j (ltb-true j count h))
        (λ h. let past : count ≤ j = ltb-false j count h in
        get_or-eq_default (tab count (key_of x).entry) 0 (omega (arith, tab-length count (key_of x).entry))
        ∙ sym (num_past x (6 + j) (omega (arith, r.long, entries_of k (key_of x) r.of))))
        (decide (ltb j count))

-- The depth of a tree looks at N alone.
pub depth_of : (d p : ℕ) → d ≡ count 5 (λ j. leb (2 ^ suc j) p) → (K : Key) → K.N ≡ p → d ≡ depth K
unfolding depth
depth_of d p h K e = rw e h

-- Row l of n rows of m entries ends within them.
pub row_fits : (l n m : ℕ) → l < n → l * m + m ≤ n * m
row_fits l n m h = omega (arith, mul-le-mul {n₁ = suc l} {m₁ = m} {n₂ = n} {m₂ = m} h (omega arith))
