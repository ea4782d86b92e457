-- The number of each kind of hash input, and of a party, in document 01.
-- Assumes nothing.
use Rattle.std.specs.Prelude.{ℕ, Option, Some, None}
use Rattle.compare.specs.declared.Kind.{Kind}
use Rattle.compare.specs.declared.Kind.TheVariants.{HGamma, H, Gamma, Omega, HPi, Pi, HPsi, Psi}

abbrev pub number : Kind → ℕ
number HGamma = 1
number H = 2
number Gamma = 3
number Omega = 4
number HPi = 5
number Pi = 6
number HPsi = 7
number Psi = 8

-- a party from 1 on, or 0 for none
abbrev pub party_number : Option ℕ → ℕ
party_number None = 0
party_number (Some i) = i
