-- Where two transcripts fork, from the slices of their files.
-- Assumes nothing.
use Prim.Native.Nat.{ℕ}
use mathlib.Core.Path.{◌≡◌, sym, ◌∙◌, ap₂}
use mathlib.Core.List.{List}
use Rattle.protocol.specs.Key.{Key}
use Rattle.protocol.specs.Prover.{hidden_of}
use Rattle.protocol.specs.Transcript.{parts_of}
use Rattle.protocol.specs.Judge.{hidden}
use Rattle.protocol.specs.Pair.{execution}
use Rattle.pair.specs.Forks.{Located}

pub located : (K : Key) (x y : List ℕ) {e h1 h2 : ℕ} {p2 p6 r2 r6 : List ℕ} → (parts_of x).p2 ≡ p2 → (parts_of x).p6 ≡ p6 → (parts_of y).p2 ≡ r2 → (parts_of y).p6 ≡ r6
    → e ≡ execution K (parts_of x) (parts_of y) → h1 ≡ hidden_of p2 p6 e → h2 ≡ hidden_of r2 r6 e → Located K x y e h1 h2
unfolding hidden
located K x y {e} {h1} {h2} {p2} {p6} {r2} {r6} a b c d is i j =
    record {
      works = is;
      hides1 = ap₂ (λ (s t : List ℕ). hidden_of s t e) a b ∙ sym i;
      hides2 = ap₂ (λ (s t : List ℕ). hidden_of s t e) c d ∙ sym j;
    }
