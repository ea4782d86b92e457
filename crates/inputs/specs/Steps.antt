-- Γ's and Ω's inputs by the lists that hold an execution, laid out as in execution/specs/Shown.
-- Assumes nothing.
use Rattle.std.specs.Prelude.{ℕ, suc, ◌+◌, ◌*◌, ◌-◌, List, [], ◌++◌, eqb}
use Rattle.lists.specs.Index.{pick, part}
use Rattle.lists.specs.Bytes.{words}
use Rattle.streams.specs.Streams.{block}
use Rattle.protocol.specs.Shares.{input}

-- Γ(i)'s input: the seed, party N's d, block 0 of the seed
unfoldable pub gamma_in : ℕ → ℕ → ℕ → List ℕ → List ℕ → ℕ → List ℕ
gamma_in m N e leaves work i =
    input 3 (e + 1) (i + 1)
    (part leaves (16 * i) 16 ++ words (pick (eqb (suc i) N) (part work (3 * m * i + m) m) []) ++ block (part leaves (16 * i) 16) 0)

-- Ω's input: s of party N, block 1 of its seed
unfoldable pub omega_in : ℕ → ℕ → ℕ → List ℕ → List ℕ → List ℕ
omega_in m N e leaves work =
    input 4 (e + 1) N (words (part work (3 * m * (N - 1) + 2 * m) m) ++ block (part leaves (16 * (N - 1)) 16) 1)
