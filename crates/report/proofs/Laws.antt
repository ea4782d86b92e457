-- Numbers that are stored one behind the other, each the judge's; the name of a run is text.
use Rattle.std.proofs.Common.{ℕ, zero, suc, ◌+◌, ◌<◌, ◌≡◌, refl, sym, subst, ◌∙◌, List, [], arith, below_more, eq-eqb, ne_eqb, eqb, length, get_or, set, get_or-set_same, get_or-set_other}
use Rattle.std.specs.Str.{IsUtf8, IsAscii}
use Rattle.std.specs.Prelude.{Result, Ok, Err, MatchResult, IsOk}
use Rattle.std.proofs.lemmas.Str.{IsUtf8-from_ascii}
use Rattle.lists.specs.Index.{pick}
use Rattle.refusals.specs.Number.{number_of}
use Rattle.protocol.specs.Judge.{judge}
use Rattle.sheet.specs.Sheet.{name_of}
use Rattle.report.specs.Judged.{Judged}

pub none-judged : (key l : List ℕ) → Judged key 0 l
none-judged key l = record { run = λ j. []; is = λ j h. absurd (omega arith) }

pub next-judged : {key l : List ℕ} {n v : ℕ} (x : List ℕ) → Judged key n l → n < length l → v ≡ number_of (judge key x) → Judged key (n + 1) (set l n v)
next-judged {key} {l} {n} {v} x J room e =
    record {
      run = runs;
      is = below_more (λ j. get_or (set l n v) j 0 ≡ number_of (judge key (runs j))) n
          (λ j h. rw (pick, ne_eqb j n (λ z. omega arith)) (get_or-set_other l n j v 0 (λ z. omega arith) ∙ J.is j h))
          (rw (pick, eq-eqb n n refl) (get_or-set_same l n v 0 room ∙ e));
    }
  where
    runs : ℕ → List ℕ
    runs j = pick (eqb j n) x (J.run j)

-- ---- names as text

name-ascii : (i : ℕ) → i < 100 → IsAscii (name_of i)
unfolding name_of
name-ascii i h zero = omega arith
name-ascii i h (suc zero) = omega arith
name-ascii i h (suc (suc zero)) = omega arith
name-ascii i h (suc (suc (suc zero))) = omega arith
name-ascii i h (suc (suc (suc (suc zero)))) = omega arith
name-ascii i h (suc (suc (suc (suc (suc k))))) = omega arith

pub name-utf8 : (i : ℕ) (name : List ℕ) → name ≡ name_of i → i < 100 → IsUtf8 name
name-utf8 i name e h = subst IsUtf8 (sym e) (IsUtf8-from_ascii _ (name-ascii i h))

pub is_ok-from_utf8 : {S E : Type 0} {bytes : List ℕ} (P : S → Type 0) (Q : E → Type 0) (r : Result S E)
    → MatchResult r P (λ e. ¬ (IsUtf8 bytes) × Q e) → IsUtf8 bytes → IsOk r
is_ok-from_utf8 P Q (Ok s) m h = refl
is_ok-from_utf8 P Q (Err e) m h = absurd (m.0 h)
