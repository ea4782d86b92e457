-- Transcripts fork: two of the prover's own, of one run, with two hidden lists.
-- Assumes nothing.
use mathlib.Core.Path.{◌≡◌, sym, ap, ◌∙◌}
use mathlib.Core.List.{List, ◌++◌}
use Prim.Native.Nat.{ℕ}
use Rattle.lists.specs.Check.{accepted, first}
use Rattle.lists.specs.TestLaws.{clean, clean-left, clean-right}
use Rattle.protocol.specs.Key.{key_of, key_checks}
use Rattle.protocol.specs.Prover.{checks7}
use Rattle.protocol.specs.Transcript.{Parts, parts_of, transcript}
use Rattle.protocol.specs.Honest.{honest_parts}
use Rattle.protocol.specs.Demand3.{Forked}
use Rattle.protocol.specs.Accepts.{GoodKey}
use Rattle.protocol.proofs.KeyFacts.{good}
use Rattle.protocol.proofs.Header.{parts_back}
use Rattle.protocol.proofs.HonestParts.{valid}
use Rattle.protocol.proofs.Acceptance.{small, honest_accepted}

-- The parts of an honest transcript are those that it was made of.
pub honest_parts_lem : (key seeds secret E κ L hid : List ℕ)
    → first (key_checks (key_of key) key ++ checks7 (key_of key) seeds secret E κ L hid) ≡ accepted
    → parts_of (transcript (honest_parts (key_of key) seeds secret E κ L hid)) ≡ honest_parts (key_of key) seeds secret E κ L hid
honest_parts_lem key seeds secret E κ L hid e =
    let c = clean (key_checks (key_of key) key ++ checks7 (key_of key) seeds secret E κ L hid) e in
    let G : GoodKey (key_of key) = good (key_of key) key (clean-left (key_checks (key_of key) key) (checks7 (key_of key) seeds secret E κ L hid) c) in
    parts_back (honest_parts (key_of key) seeds secret E κ L hid)
    (small (key_of key) seeds secret E κ L hid G (valid (key_of key) seeds secret E κ L hid G (clean-right (key_checks (key_of key) key) _ c)))

pub honest-forked : (key seeds secret E κ L hid₁ hid₂ : List ℕ)
    → first (key_checks (key_of key) key ++ checks7 (key_of key) seeds secret E κ L hid₁) ≡ accepted
    → first (key_checks (key_of key) key ++ checks7 (key_of key) seeds secret E κ L hid₂) ≡ accepted
    → (hid₁ ≡ hid₂ → ⊥)
    → Forked key (transcript (honest_parts (key_of key) seeds secret E κ L hid₁)) (transcript (honest_parts (key_of key) seeds secret E κ L hid₂))
honest-forked key seeds secret E κ L hid₁ hid₂ e₁ e₂ differ =
    let a = honest_parts_lem key seeds secret E κ L hid₁ e₁ in
    let b = honest_parts_lem key seeds secret E κ L hid₂ e₂ in
    record {
      first = honest_accepted key seeds secret E κ L hid₁ e₁;
      second = honest_accepted key seeds secret E κ L hid₂ e₂;
      same1 = ap (λ (P : Parts). P.p1) a ∙ sym (ap (λ (P : Parts). P.p1) b);
      same2 = ap (λ (P : Parts). P.p2) a ∙ sym (ap (λ (P : Parts). P.p2) b);
      same3 = ap (λ (P : Parts). P.p3) a ∙ sym (ap (λ (P : Parts). P.p3) b);
      same4 = ap (λ (P : Parts). P.p4) a ∙ sym (ap (λ (P : Parts). P.p4) b);
      same5 = ap (λ (P : Parts). P.p5) a ∙ sym (ap (λ (P : Parts). P.p5) b);
      differ6 = λ q. differ (sym (ap (λ (P : Parts). P.p6) a) ∙ q ∙ ap (λ (P : Parts). P.p6) b);
    }
