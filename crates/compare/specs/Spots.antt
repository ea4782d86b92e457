-- The pair reader's comparisons (document 01, Pair reader) on the lists that hold the hash inputs: l1 and l2 those of the list hashes, i1
-- and i2 those of the execution, of the first and the second transcript. Parties count from 0 here.
-- Assumes nothing.
use Rattle.std.specs.Prelude.{ℕ, suc, ◌+◌, ◌*◌, ◌-◌, ◌≤◌, Bool, not, List, [], ◌∷◌, ◌++◌, eqb, Option, Some, None}
use Rattle.lists.specs.Index.{pick, part, cat, same, holds}
use Rattle.protocol.specs.Pair.{Reading, collision}
use Rattle.walk.specs.Lists.{hπ_from, hψ_from}
use Rattle.inputs.specs.Layout.{Γ_from, Γ_size, Ω_from, Π_from, Ψ_from}
use Rattle.compare.specs.declared.Kind.{Kind}
use Rattle.compare.specs.declared.Kind.TheVariants.{HGamma, H, Gamma, Omega, HPi, Pi, HPsi, Psi}
use Rattle.compare.specs.declared.Source.{Source}
use Rattle.compare.specs.declared.Source.TheVariants.{Lists, Execution}
use Rattle.compare.specs.declared.Spot.{Spot}
use Rattle.compare.specs.Kinds.{number, party_number}

-- of what the two kinds of lists have, that of a source
abbrev pub sourced : {A : Type 0} → Source → A → A → A
sourced Lists l x = l
sourced Execution l x = x

-- one place of the lists of a source
abbrev pub at : Kind → (party : Option ℕ) → Source → (from size : ℕ) → Spot
at kind party source from size = record { kind = kind; party = party; source = source; from = from; length = size }

-- the input that a spot shows in the lists l and x
abbrev pub shown : Spot → List ℕ → List ℕ → List ℕ
shown r l x = part (sourced r.source l x) r.from r.length

-- the first of these spots at which the two transcripts' lists differ
unfoldable pub first_spot : List Spot → (l1 l2 i1 i2 : List ℕ) → Option Spot
first_spot [] l1 l2 i1 i2 = None
first_spot (r ∷ rs) l1 l2 i1 i2 = pick (same (shown r l1 i1) (shown r l2 i2)) (first_spot rs l1 l2 i1 i2) (Some r)

-- the collision of a spot, in execution e, or else x
abbrev pub read_at : (l1 l2 i1 i2 : List ℕ) → ℕ → Reading → Option Spot → Reading
read_at l1 l2 i1 i2 e x None = x
read_at l1 l2 i1 i2 e x (Some r) = collision (number r.kind) e (party_number r.party) (shown r l1 i1) (shown r l2 i2)

-- the place of r lies in lists of these lengths
pub record Inside (lists inputs : ℕ) (r : Spot) : Type 0 where
  pub within : r.from + r.length ≤ sourced r.source lists inputs
  pub short : r.length ≤ 16400

-- party i is hidden in neither of two executions that hide h1 and h2
unfoldable pub open_both : ℕ → ℕ → ℕ → Bool
open_both h1 h2 i = holds (not (eqb i h1) ∷ not (eqb i h2) ∷ [])

-- 1 hΓ and 2 h(e)
unfoldable pub on_hashes : (M N : ℕ) → List Spot
on_hashes M N = at HGamma None Lists 0 (32 * M) ∷ at H None Execution 0 (32 * N) ∷ []

-- 3 Γ(i), where party i is open in both
unfoldable pub on_party : (m N h1 h2 : ℕ) → ℕ → List Spot
on_party m N h1 h2 i = pick (open_both h1 h2 i) (at Gamma (Some (suc i)) Execution (Γ_from N i) (Γ_size m N i) ∷ []) []

-- 4 Ω, where N is open in both
unfoldable pub on_last : (m N h1 h2 : ℕ) → List Spot
on_last m N h1 h2 = pick (open_both h1 h2 (N - 1)) (at Omega (Some N) Execution (Ω_from m N) (4 * m + 16) ∷ []) []

-- 5 hπ, 6 Π, 7 hψ and 8 Ψ, of c kept executions
unfoldable pub on_rest : (m N M c : ℕ) → List Spot
on_rest m N M c =
    at HPi None Lists (hπ_from M) (32 * c)
    ∷ at Pi None Execution (Π_from m N) (4 * m * N + 16)
    ∷ at HPsi None Lists (hψ_from M c) (32 * c)
    ∷ at Psi None Execution (Ψ_from m N) (4 * N + 16)
    ∷ []

-- all of them
unfoldable pub on_all : (m N M c h1 h2 : ℕ) → List Spot
on_all m N M c h1 h2 = on_hashes M N ++ (cat N (on_party m N h1 h2) ++ (on_last m N h1 h2 ++ on_rest m N M c))
