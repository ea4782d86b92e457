-- Document 01, Transcript: the parts of a transcript that is made of the prover's own messages.
-- Assumes nothing.
use Rattle.std.specs.Prelude.{ℕ, List, [], ◌∷◌, replicate}
use Rattle.lists.specs.Bytes.{words}
use Rattle.protocol.specs.Key.{Key}
use Rattle.protocol.specs.Prover.{message1, message3, message5, message7}
use Rattle.protocol.specs.Transcript.{Parts}

-- Messages 1, 3, 5 and 7 are the prover's; E, L and the hidden list are the challenges. κ is document 01's seed K.
abbrev pub honest_parts : Key → (seeds secret E κ L hidden : List ℕ) → Parts
honest_parts K seeds secret E κ L hidden =
    record {
      p1 = message1 K seeds;
      p2 = E;
      p3 = message3 K seeds secret E κ;
      p4 = L;
      p5 = message5 K seeds secret E κ L;
      p6 = hidden;
      p7 = message7 K seeds secret E κ L hidden;
    }

-- Inputs that the prover's checks pass: q 257, n 1, m 2, N 2, M 2, τ 1; A is 3 5, t is 3, and the secret 1 0 solves it.
abbrev pub small_key : List ℕ
small_key = words (257 ∷ 1 ∷ 2 ∷ 2 ∷ 2 ∷ 1 ∷ 3 ∷ 5 ∷ 3 ∷ [])

abbrev pub small_secret : List ℕ
small_secret = 1 ∷ 0 ∷ []

abbrev pub zeros : ℕ → List ℕ
zeros n = replicate n 0
