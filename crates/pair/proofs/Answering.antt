-- From the refusals and the fork to what the pair reader answers.
-- Assumes nothing.
use Prim.Native.Nat.{ℕ, suc, ◌≤◌}
use mathlib.Core.Path.{◌≡◌, refl, sym, ◌∙◌, subst}
use mathlib.Core.Bool.{true, false, not}
use mathlib.Core.List.{List, [], ◌∷◌}
use borrow.Author.Tests.{not-false}
use Rattle.lists.specs.Index.{same}
use Rattle.lists.specs.Check.{Verdict, accepted, refused, first}
use Rattle.lists.specs.TestLaws.{Clean, clean, holds-each, same_eq, first_stops, first_more, first_hit, first_miss, not_of_true, not_of_false}
use Rattle.protocol.proofs.Demand3.{is_accepted_lem}
use Rattle.protocol.specs.Key.{Key, key_of, key_checks}
use Rattle.protocol.specs.Transcript.{Parts, parts_of}
use Rattle.protocol.specs.Judge.{run_checks}
use Rattle.protocol.specs.Pair.{Reading, refusal, first_different, comparisons, values, execution, finding, same_front, enough, Lengths, pair_checks, read_of, pair}
use Rattle.protocol.specs.Accepts.{GoodKey}
use Rattle.std.specs.Prelude.{Result, Err}
use Rattle.refusals.specs.declared.Refusal.{Refusal}
use Rattle.refusals.specs.declared.Refusal.TheVariants.{Room}
use Rattle.refusals.specs.Refused.{number}
use Rattle.key.specs.declared.sizes.Numbers.{Numbers}
use Rattle.key.specs.Numbers.{key_with}
use Rattle.fork.specs.Fork.{Forking}
use Rattle.fork.proofs.Forked.{forked}
use Rattle.side.specs.Side.{Sound}
use Rattle.accepted.specs.Forks.{fork_checks}
use Rattle.reading.specs.declared.Finding.{Finding}
use Rattle.finding.specs.Reads.{Reads}
use Rattle.pair.specs.Forks.{Forks, Located}

-- ---- the fork
pub seconds_equal : (K : Key) (P R : Parts) → same_front K P R ≡ true → P.p2 ≡ R.p2
unfolding same_front
seconds_equal K P R e =
    same_eq P.p2 R.p2
    (holds-each (same P.p1 R.p1 ∷ same P.p2 R.p2 ∷ same P.p3 R.p3 ∷ same P.p4 R.p4 ∷ same P.p5 R.p5 ∷ []) e).1.0

module _ (k : Numbers) (entries x y : List ℕ) (f : Forks (key_with k entries) x y) {e h1 h2 : ℕ} (l : Located (key_with k entries) x y e h1 h2) where
  forking : Forking (key_with k entries) (parts_of x) (parts_of y) e
  forking =
      subst (λ (j : ℕ). Forking (key_with k entries) (parts_of x) (parts_of y) j) (sym l.works)
      (forked (key_with k entries) x y f.key f.first_good f.second_good f.fronts f.hidden_differ)

  pub sound_one : Sound k entries x e h1
  sound_one =
      record {
        accepted = f.first_good;
        within = forking.within;
        kept = forking.kept-one;
        hides = l.hides1;
        below = subst (λ (j : ℕ). suc j ≤ k.parties) l.hides1 forking.below_one;
      }

  pub sound_two : Sound k entries y e h2
  sound_two =
      record {
        accepted = f.second_good;
        within = forking.within;
        kept = forking.kept_two;
        hides = l.hides2;
        below = subst (λ (j : ℕ). suc j ≤ k.parties) l.hides2 forking.below_two;
      }

  pub hide_others : h1 ≡ h2 → ⊥
  hide_others z = forking.differ (l.hides1 ∙ (z ∙ sym l.hides2))

pub reads_finding : (K : Key) (P R : Parts) (e : ℕ) {r : Result Finding Refusal} {a b c d s t u v : List ℕ} → e ≡ execution K P R
    → Reads (first_different (suc e) (comparisons K P R e) (values K P R e)) r a b c d s t u v → Reads (finding K P R) r a b c d s t u v
unfolding finding
reads_finding K P R e {r} {a} {b} {c} {d} {s} {t} {u} {v} is made =
    subst (λ (j : ℕ). Reads (first_different (suc j) (comparisons K P R j) (values K P R j)) r a b c d s t u v) is made

-- ---- refusals
pub forks_of : (K : Key) (x y : List ℕ) → GoodKey K → first (fork_checks K x y) ≡ accepted → Forks K x y
unfolding fork_checks
forks_of K x y key e =
    let c : Clean (fork_checks K x y) = clean (fork_checks K x y) e in
    record {
      key = key;
      first_good = is_accepted_lem (first (run_checks K x)) (not-false _ c.0);
      second_good = is_accepted_lem (first (run_checks K y)) (not-false _ c.1.0);
      fronts = not-false _ c.1.1.0;
      hidden_differ = c.1.1.1.0;
    }

-- a refusal leaves every list
pub reads_refused : (v : Verdict) (x : Reading) {r : Refusal} {o : Result Finding Refusal} (a b c d : List ℕ) → v ≡ refused (number r) → o ≡ Err r
    → Reads (read_of v x) o a a b b c c d d
unfolding read_of
reads_refused v x {r} {o} a b c d e h =
    subst (λ (w : Verdict). Reads (read_of w x) o a a b b c c d d) (sym e)
    (subst (λ (p : Result Finding Refusal). Reads (refusal (number r)) p a a b b c c d d) (sym h)
    (record { answer = refl; hash1 = refl; hash2 = refl; secret = refl; uv = refl }))

pub reads_accepted : (v : Verdict) {x : Reading} {r : Result Finding Refusal} {a b c d s t u w : List ℕ} → v ≡ accepted → Reads x r a b c d s t u w → Reads (read_of v x) r a b c d s t u w
unfolding read_of
reads_accepted v {x} {r} {a} {b} {c} {d} {s} {t} {u} {w} e made = subst (λ (y : Verdict). Reads (read_of y x) r a b c d s t u w) (sym e) made

-- ---- from the key's bytes
pub key_refused : (key : List ℕ) (l : Lengths) (x y : List ℕ) {r : Refusal} {o : Result Finding Refusal} (a b c d : List ℕ)
    → first (key_checks (key_of key) key) ≡ refused (number r) → o ≡ Err r → Reads (pair key l x y) o a a b b c c d d
unfolding pair pair_checks
key_refused key l x y a b c d e h = reads_refused _ _ a b c d (first_stops (key_checks (key_of key) key) _ e) h

pub room_refused : (key : List ℕ) (l : Lengths) (x y a b c d : List ℕ) → first (key_checks (key_of key) key) ≡ accepted → enough (key_of key) l ≡ false
    → Reads (pair key l x y) (Err Room) a a b b c c d d
unfolding pair pair_checks
room_refused key l x y a b c d good e =
    reads_refused _ _ a b c d (first_more (key_checks (key_of key) key) _ good ∙ first_hit (not (enough (key_of key) l)) 11 _ (not_of_false e)) refl

module _ (key : List ℕ) (l : Lengths) (x y : List ℕ) {r : Result Finding Refusal} {a b c d s t u v : List ℕ} where
  module _ (good : first (key_checks (key_of key) key) ≡ accepted) where
    pub run_read : {K : Key} → K ≡ key_of key → enough (key_of key) l ≡ true
        → Reads (read_of (first (fork_checks K x y)) (finding K (parts_of x) (parts_of y))) r a b c d s t u v → Reads (pair key l x y) r a b c d s t u v
    unfolding pair pair_checks fork_checks
    run_read {K} is e made =
        subst (λ (z : Verdict). Reads (read_of z (finding (key_of key) (parts_of x) (parts_of y))) r a b c d s t u v)
        (sym (first_more (key_checks (key_of key) key) _ good ∙ first_miss (not (enough (key_of key) l)) 11 (fork_checks (key_of key) x y) (not_of_true e)))
        (subst (λ (J : Key). Reads (read_of (first (fork_checks J x y)) (finding J (parts_of x) (parts_of y))) r a b c d s t u v) is made)
