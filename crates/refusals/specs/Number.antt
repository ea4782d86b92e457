-- A verdict as the number that a call returns: 0 where it accepts, else the refusal's number.
-- Assumes nothing.
use Rattle.std.specs.Prelude.{ℕ, ◌<◌, ◌≡◌, refl, true, false, List, [], ◌∷◌, ◌++◌}
use Rattle.std.proofs.Common.{sym, ap, arith}
use Rattle.lists.specs.Check.{Check, ◌⇒◌, Verdict, accepted, refused, first}

abbrev pub number_of : Verdict → ℕ
number_of accepted = 0
number_of (refused n) = n

-- A number that is not 0 is a refusal's.
pub refused_is : (v : Verdict) {n : ℕ} → n ≡ number_of v → (n ≡ 0 → ⊥) → v ≡ refused n
refused_is accepted e h = absurd (h e)
refused_is (refused k) e h = ap refused (sym e)

-- Each number of a list of tests is above 0.
abbrev pub Numbered : List Check → Type 0
Numbered [] = Unit {0}
Numbered ((b ⇒ n) ∷ l) = (0 < n) × Numbered l

pub numbered_append : (a b : List Check) → Numbered a → Numbered b → Numbered (a ++ b)
numbered_append [] b h k = k
numbered_append ((t ⇒ n) ∷ a) b h k = (h.0, numbered_append a b h.1 k)

-- The number 0 says that none applies.
pub none_applies : (l : List Check) → Numbered l → number_of (first l) ≡ 0 → first l ≡ accepted
unfolding first
none_applies [] h e = refl
none_applies ((true ⇒ n) ∷ l) h e = absurd (omega (arith, h.0))
none_applies ((false ⇒ n) ∷ l) h e = none_applies l h.1 e
