-- The premises of honest acceptance hold of a small key, computed.
-- Assumes nothing.
use Prim.Native.Nat.{ℕ}
use mathlib.Core.Path.{◌≡◌, refl}
use mathlib.Core.Logic.{◌⊎◌, ⊎_elim}
use mathlib.Core.List.{[], ◌∷◌, ◌++◌}
use Rattle.lists.specs.Index.{every, holds}
use Rattle.lists.specs.Bytes.{le4, rd4, words, num}
use Rattle.lists.specs.Check.{accepted, first}
use Rattle.numbers.specs.Sum.{sum}
use Rattle.protocol.specs.Key.{key_of, limits, key_checks}
use Rattle.protocol.specs.Prover.{good_e, good_hidden, solves, binary, statement_checks, checks5, checks7}
use Rattle.protocol.specs.Honest.{small_key, small_secret, zeros}

abbrev pub Met : ℕ → ℕ → Type 0
Met E hidden =
    first
    (key_checks (key_of small_key) small_key
    ++ checks7 (key_of small_key) (zeros 32) small_secret (E ∷ []) (zeros 16) (zeros 16) (hidden ∷ []))
    ≡ accepted

four : (Met 1 1) × (Met 1 2) × (Met 2 1) × (Met 2 2)
unfolding first key_checks limits key_of num rd4 words le4 every holds checks7 checks5 statement_checks good_e good_hidden solves binary sum
four = (refl, refl, refl, refl)

pub premises_hold : (E hidden : ℕ) → (E ≡ 1) ⊎ (E ≡ 2) → (hidden ≡ 1) ⊎ (hidden ≡ 2) → Met E hidden
premises_hold E hidden a b = row E a
  where
    column : (x : ℕ) → Met x 1 → Met x 2 → (hidden ≡ 1) ⊎ (hidden ≡ 2) → Met x hidden
    column x one two h = ⊎_elim (λ (e : hidden ≡ 1). rw e one) (λ (e : hidden ≡ 2). rw e two) h

    row : (x : ℕ) → (x ≡ 1) ⊎ (x ≡ 2) → Met x hidden
    row x h =
        ⊎_elim (λ (e : x ≡ 1). rw e (column 1 four.0 four.1 b)) (λ (e : x ≡ 2). rw e (column 2 four.2 four.3 b)) h
