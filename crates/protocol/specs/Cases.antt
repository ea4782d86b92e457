-- Document 01, What the contracts say, and the cases: cases a to j as one table, a row for each with what the definitions give and what
-- document 01 says.
-- Assumes nothing.
use Rattle.std.specs.Prelude.{ℕ, zero, suc, ◌*◌, ◌%◌, ◌≡◌, not, List, [], ◌∷◌, ◌++◌, length, take, replicate}
use Rattle.lists.specs.Tab.{tab}
use Rattle.lists.specs.Bytes.{num}
use Rattle.lists.specs.Check.{◌⇒◌, Verdict, accepted, refused, first}
use Rattle.numbers.specs.Sum.{sum}
use Rattle.numbers.specs.Inverse.{inverse_of}
use Rattle.streams.specs.Streams.{word64}
use Rattle.case_seeds.specs.Seeds.{seed₁, seed₂, seed_l}
use Rattle.tree.specs.Tree.{left, right, opening}
use Rattle.protocol.specs.Key.{Key, depth, key_of, key_checks}
use Rattle.protocol.specs.Shares.{View, s, b, d, αsum, o}
use Rattle.protocol.specs.Prover.{checks3}
use Rattle.protocol.specs.Transcript.{Parts, parts_of, good_header, transcript}
use Rattle.protocol.specs.Judge.{form_checks}
use Rattle.protocol.specs.Honest.{small_key, zeros}

pub record Row : Type 0 where
  pub given : List ℕ
  pub said : List ℕ

-- a verdict as a number, 0 where none of the tests applies
abbrev pub told : Verdict → ℕ
told accepted = 0
told (refused n) = n

-- a key of these numbers, with zeros for A and t
abbrev pub key_case : (n m N M τ : ℕ) → Key
key_case n m N M τ = record { q = 257; n = n; m = m; N = N; M = M; τ = τ; entry = λ j. 0 }

-- Cases d to f: two parties, one column, no row and the coefficient γ 1. The first party's shares and the second's b are those that the
-- two seeds give; the second's s and d are given.
abbrev pub key_d : Key
key_d = key_case 0 1 2 2 1

abbrev pub view_d : (s₂ d₂ : ℕ) → View
view_d s₂ d₂ =
    record {
      ex = 0;
      seed = two;
      d_n = λ k. d₂;
      s_n = λ k. s₂;
      hid = 2;
      Γh = [];
      αh = λ k. 0;
      oh = 0;
    }
  where
    two : ℕ → List ℕ
    two zero = seed₁
    two (suc i) = seed₂

-- s, b, d of both parties
abbrev pub shares : View → List ℕ
shares v = s key_d v 0 0 ∷ s key_d v 0 1 ∷ b key_d v 0 0 ∷ b key_d v 0 1 ∷ d key_d v 0 0 ∷ d key_d v 0 1 ∷ []

-- both γ terms, and their sum as the judge takes it
abbrev pub outputs : View → List ℕ
outputs v = o key_d v seed_l 0 ∷ o key_d v seed_l 1 ∷ sum key_d.N (o key_d v seed_l) % key_d.q ∷ []

-- Case i: what the prover's call for message 3 says of E, and what the judge says of a file with E in it, for M 4 and τ 2.
abbrev pub key_i : Key
key_i = key_case 1 2 2 4 2

abbrev pub parts_i : List ℕ → Parts
parts_i E = record { p1 = []; p2 = E; p3 = []; p4 = []; p5 = []; p6 = 2 ∷ 2 ∷ []; p7 = zeros 136 }

abbrev pub verdicts_e : List ℕ → List ℕ
verdicts_e E = told (first (checks3 key_i (zeros 64) (zeros 2) E (zeros 16))) ∷ told (first (form_checks key_i (parts_i E))) ∷ []

-- Case j: a key's verdict; a file with this party hidden and a part 7 of this length, and the judge's verdict on its form.
abbrev pub verdict_key : List ℕ → ℕ
verdict_key key = told (first (key_checks (key_of key) key))

abbrev pub file_j : (h long : ℕ) → List ℕ
file_j h long =
    transcript
    (record { p1 = zeros 32; p2 = 1 ∷ []; p3 = zeros 80; p4 = zeros 16; p5 = zeros 32; p6 = h ∷ []; p7 = zeros long })

abbrev pub verdict_form : List ℕ → ℕ
verdict_form x =
    let K = key_of small_key in told (first (not (good_header K x) ⇒ 12 ∷ form_checks K (parts_of x)))

-- rows a to j; the seeds of case h are those below any root
abbrev pub cases : List ℕ → List Row
cases root =
    record { given = inverse_of 257 4 ∷ []; said = 193 ∷ [] }
    ∷ record { given = inverse_of 257 32 ∷ []; said = 249 ∷ [] }
    ∷ record { given = inverse_of 2147483647 2 ∷ []; said = 1073741824 ∷ [] }
    ∷ record {
      given = shares (view_d 158 2) ++ αsum key_d (view_d 158 2) 0 ∷ outputs (view_d 158 2);
      said = 100 ∷ 158 ∷ 7 ∷ 10 ∷ 30 ∷ 2 ∷ 241 ∷ 17 ∷ 240 ∷ 0 ∷ [];
    }
    ∷ record {
      given = shares (view_d 159 2) ++ outputs (view_d 159 2);
      said = 100 ∷ 159 ∷ 7 ∷ 10 ∷ 30 ∷ 2 ∷ 124 ∷ 135 ∷ 2 ∷ [];
    }
    ∷ record {
      given = shares (view_d 158 3) ++ outputs (view_d 158 3);
      said = 100 ∷ 158 ∷ 7 ∷ 10 ∷ 30 ∷ 3 ∷ 17 ∷ 241 ∷ 1 ∷ [];
    }
    ∷ record {
      given =
          word64 (replicate 8 255) 0 % 257 ∷ word64 (replicate 8 255) 0 % 65537 ∷ word64 (replicate 8 255) 0 % 2147483647 ∷ [];
      said = 0 ∷ 0 ∷ 3 ∷ [];
    }
    ∷ record { given = opening (depth (key_case 1 2 8 2 1)) root 2; said = left (left root) ++ right (right (left root)) ++ right root }
    ∷ record {
      given =
          verdicts_e (1 ∷ 3 ∷ []) ++ verdicts_e (3 ∷ 1 ∷ []) ++ verdicts_e (2 ∷ 2 ∷ []) ++ verdicts_e (0 ∷ 1 ∷ []) ++ verdicts_e (1 ∷ 5 ∷ []);
      said = 0 ∷ 0 ∷ 7 ∷ 7 ∷ 7 ∷ 7 ∷ 7 ∷ 7 ∷ 7 ∷ 7 ∷ [];
    }
    ∷ record {
      given =
          length small_key ∷ verdict_key small_key ∷ verdict_key (take 35 small_key) ∷ verdict_key (small_key ++ 0 ∷ [])
          ∷ tab 7 (λ i. num (file_j 2 76) (2 * i))
          ++ length (file_j 2 76) ∷ verdict_form (file_j 2 76) ∷ verdict_form (file_j 2 92)
          ∷ length (file_j 1 92) ∷ verdict_form (file_j 1 92) ∷ verdict_form (file_j 1 76)
          ∷ [];
      said =
          36 ∷ 0 ∷ 4 ∷ 4 ∷ 56 ∷ 88 ∷ 89 ∷ 169 ∷ 185 ∷ 217 ∷ 218 ∷ 294 ∷ 0 ∷ 13 ∷ 310 ∷ 0 ∷ 13 ∷ [];
    }
    ∷ []

-- each row's two lists are equal
abbrev pub Agree : List Row → Type 0
Agree [] = Unit {0}
Agree (r ∷ l) = (r.given ≡ r.said) × Agree l
