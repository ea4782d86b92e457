-- What the pair reader's call reads, by the length of the list for its answer; and the values of a reading fit 32 bits.
-- Assumes nothing.
use Prim.Native.Nat.{ℕ}
use mathlib.Core.Path.{◌≡◌, refl, sym, ◌∙◌, ap, subst}
use mathlib.Core.Bool.{Bool, true, false}
use mathlib.Core.List.{List, [], ◌∷◌, ◌++◌}
use native.Mathlib.Omega.{arith}
use borrow.Author.Tests.{lt-ltb, le-ltb, leb-true, leb-false}
use lib.Dec.{leb, ltb}
use Rattle.std.specs.Prelude.{Result, Err}
use Rattle.refusals.specs.declared.Refusal.{Refusal}
use Rattle.refusals.specs.declared.Refusal.TheVariants.{Room}
use Rattle.refusals.specs.Refused.{number}
use Rattle.reading.specs.declared.Finding.{Finding}
use Rattle.reading.specs.Answers.{means}
use Rattle.finding.specs.Reads.{Reads}
use Rattle.answer.specs.Rows.{row_after}
use Rattle.lists.specs.Check.{Verdict, accepted, refused, ◌⇒◌, first}
use Rattle.lists.specs.TestLaws.{pick_true, pick_false, first_stops, first_more}
use Rattle.protocol.specs.Key.{key_of, key_checks}
use Rattle.protocol.specs.Pair.{Reading, refusal, collision, secret, square, errors, Lengths, pair, Said, says}
use Rattle.protocol.specs.Fits.{Fits}
use Rattle.protocol.proofs.Fits.{readings_fit}
use Rattle.refusals.specs.Number.{number_of}
use Rattle.answer.specs.Rows.{Narrow}
use Rattle.badge.specs.PairCall.{pair_call}

-- what a call answers and leaves, with the list for the answer
pub record Called (x : Reading) (r : Result Finding Refusal) (a a' b b' c c' d d' answer answer' : List ℕ) : Type 0 where
  pub reads : Reads x r a a' b b' c c' d d'
  pub answer_after : answer' ≡ row_after (says x) answer

refusal_called : (x : Reading) (r : Refusal) (o : Result Finding Refusal) (a b c d answer : List ℕ) → x ≡ refusal (number r) → o ≡ Err r → Called x o a a b b c c d d answer answer
refusal_called x r o a b c d answer e h =
    subst (λ (y : Reading). Called y o a a b b c c d d answer answer) (sym e)
    (subst (λ (p : Result Finding Refusal). Called (refusal (number r)) p a a b b c c d d answer answer) (sym h)
    (record { reads = record { answer = refl; hash1 = refl; hash2 = refl; secret = refl; uv = refl }; answer_after = refl }))

module _ (n : ℕ) (key : List ℕ) (l : Lengths) (x y : List ℕ) {t : Bool} (is : t ≡ leb 8 n) where
  call_short : {m : ℕ} → t ≡ false → first (key_checks (key_of key) key ++ true ⇒ 11 ∷ []) ≡ refused m → pair_call n key l x y ≡ refusal m
  unfolding pair_call
  call_short h e =
      pick_true (ltb n 8) (refusal (number_of (first (key_checks (key_of key) key ++ true ⇒ 11 ∷ [])))) (pair key l x y) (lt-ltb n 8 (leb-false 8 n (sym is ∙ h)))
      ∙ ap (λ (w : Verdict). refusal (number_of w)) e

  pub short_key : (r : Refusal) (o : Result Finding Refusal) (a b c d answer : List ℕ) → t ≡ false → first (key_checks (key_of key) key) ≡ refused (number r) → o ≡ Err r
      → Called (pair_call n key l x y) o a a b b c c d d answer answer
  short_key r o a b c d answer h e z =
      refusal_called (pair_call n key l x y) r o a b c d answer (call_short h (first_stops (key_checks (key_of key) key) (true ⇒ 11 ∷ []) e)) z

  pub short_room : (a b c d answer : List ℕ) → t ≡ false → first (key_checks (key_of key) key) ≡ accepted
      → Called (pair_call n key l x y) (Err Room) a a b b c c d d answer answer
  unfolding first
  short_room a b c d answer h e =
      refusal_called (pair_call n key l x y) Room (Err Room) a b c d answer (call_short h (first_more (key_checks (key_of key) key) (true ⇒ 11 ∷ []) e)) refl

  call_long : t ≡ true → pair key l x y ≡ pair_call n key l x y
  unfolding pair_call
  call_long h =
      sym
      (pick_false (ltb n 8) (refusal (number_of (first (key_checks (key_of key) key ++ true ⇒ 11 ∷ [])))) (pair key l x y)
      (le-ltb n 8 (leb-true 8 n (sym is ∙ h))))

  pub long_read : {r : Result Finding Refusal} {a a' b b' c c' d d' answer answer' : List ℕ} → t ≡ true → Reads (pair key l x y) r a a' b b' c c' d d'
      → answer' ≡ row_after (means r) answer → Called (pair_call n key l x y) r a a' b b' c c' d d' answer answer'
  long_read {r} {a} {a'} {b} {b'} {c} {c'} {d} {d'} {answer} {answer'} h e w =
      subst (λ (z : Reading). Called z r a a' b b' c c' d d' answer answer') (call_long h)
      (record { reads = e; answer_after = w ∙ ap (λ (s : Said). row_after s answer) e.answer })

-- ---- values of 32 bits
narrow_says : (x : Reading) → Fits x → Narrow (says x)
narrow_says (refusal n) h = tt
narrow_says (collision kind e i one two) h =
    (omega (arith, h.0.1), (omega (arith, h.1.1), (omega (arith, h.2), (omega (arith, h.3), (omega arith, (omega arith, (omega arith, tt)))))))
narrow_says (secret bits) h = (omega arith, (omega arith, (omega arith, (omega arith, (omega arith, (omega arith, (omega arith, tt)))))))
narrow_says (square e k b d) h =
    (omega arith, (omega (arith, h.0.1), (omega arith, (omega arith, (omega (arith, h.1.1), (omega (arith, h.2), (omega (arith, h.3), tt)))))))
narrow_says (errors e list) h =
    (omega arith, (omega (arith, h.0.1), (omega arith, (omega arith, (omega arith, (omega arith, (omega arith, tt)))))))

pub narrow_reading : (key : List ℕ) (l : Lengths) (x y : List ℕ) {s : Said} → s ≡ says (pair key l x y) → Narrow s
narrow_reading key l x y is = subst Narrow (sym is) (narrow_says (pair key l x y) (readings_fit key x y l))
