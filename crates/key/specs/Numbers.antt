-- A key's six numbers as code carries them, and the limits of a key that is accepted.
-- Assumes nothing.
use Rattle.std.specs.Prelude.{ℕ, ◌+◌, ◌*◌, ◌<◌, ◌≡◌, refl, List, length, get_or}
use Rattle.std.proofs.Common.{sym, ◌∙◌}
use Rattle.protocol.specs.Key.{Key, key_of}
use Rattle.key.specs.declared.sizes.Numbers.{Numbers}
use Rattle.key.specs.Limits.{Limits}

-- k holds the numbers of K.
pub record Of (k : Numbers) (K : Key) : Type 0 where
  pub q_is : k.modulus.q ≡ K.q
  pub n_is : k.n ≡ K.n
  pub m_is : k.m ≡ K.m
  pub parties_is : k.parties ≡ K.N
  pub executions_is : k.executions ≡ K.M
  pub τ_is : k.opened ≡ K.τ

-- A key that begins with six numbers.
abbrev pub begun : List ℕ → Key
begun l =
    record { q = get_or l 0 0; n = get_or l 1 0; m = get_or l 2 0; N = get_or l 3 0; M = get_or l 4 0; τ = get_or l 5 0; entry = λ j. 0 }

-- k was read from the bytes x of a key that is accepted; A and t have n(m + 1) entries, which end the key, each below q.
pub record Read (x : List ℕ) (k : Numbers) : Type 0 where
  pub of : Of k (key_of x)
  pub within : Limits k.modulus.q k.n k.m k.parties k.executions k.opened
  pub long : length x ≡ 24 + 4 * (k.n * (k.m + 1))
  pub below : (j : ℕ) → j < k.n * (k.m + 1) → (key_of x).entry j < k.modulus.q

-- The key that the numbers k and a list of entries make.
abbrev pub key_with : Numbers → List ℕ → Key
key_with k l =
    record { q = k.modulus.q; n = k.n; m = k.m; N = k.parties; M = k.executions; τ = k.opened; entry = λ j. get_or l j 0 }

pub of_with : (k : Numbers) (l : List ℕ) → Of k (key_with k l)
of_with k l = record { q_is = refl; n_is = refl; m_is = refl; parties_is = refl; executions_is = refl; τ_is = refl }

-- J and K have the same six numbers, whatever these are: those of k are within the limits.
pub record Alike (J K : Key) : Type 0 where
  pub q_same : J.q ≡ K.q
  pub n_same : J.n ≡ K.n
  pub m_same : J.m ≡ K.m
  pub parties_same : J.N ≡ K.N
  pub executions_same : J.M ≡ K.M
  pub τ_same : J.τ ≡ K.τ

pub alike_with : (K : Key) (l : List ℕ) → Alike (record { q = K.q; n = K.n; m = K.m; N = K.N; M = K.M; τ = K.τ; entry = λ j. get_or l j 0 }) K
alike_with K l = record { q_same = refl; n_same = refl; m_same = refl; parties_same = refl; executions_same = refl; τ_same = refl }

-- Two keys of the numbers k.
pub alike_of : {k : Numbers} {J K : Key} → Of k J → Of k K → Alike J K
alike_of is of =
    record {
      q_same = sym is.q_is ∙ of.q_is;
      n_same = sym is.n_is ∙ of.n_is;
      m_same = sym is.m_is ∙ of.m_is;
      parties_same = sym is.parties_is ∙ of.parties_is;
      executions_same = sym is.executions_is ∙ of.executions_is;
      τ_same = sym is.τ_is ∙ of.τ_is;
    }
