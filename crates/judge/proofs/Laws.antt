-- From the form, the walk and the three hashes to the verdict on the parts.
-- Assumes nothing.
use Prim.Native.Nat.{ℕ, ◌+◌, ◌*◌, ◌-◌}
use mathlib.Core.Path.{◌≡◌, refl, sym, ◌∙◌, ap}
use mathlib.Core.List.{List, ◌++◌}
use native.Mathlib.Omega.{arith}
use lib.ListN.{take, drop}
use Rattle.lists.specs.Index.{cat, part}
use Rattle.lists.specs.Check.{Check, Verdict, accepted, refused, first}
use Rattle.lists.specs.TestLaws.{clean, pick_true, pick_false, first_stops, first_more}
use Rattle.protocol.specs.Key.{Key, kept_count}
use Rattle.protocol.specs.Transcript.{Parts}
use Rattle.protocol.specs.Judge.{hπ_at, form_checks, hash_checks, parts_checks}
use Rattle.protocol.specs.Pair.{is_accepted}
use Rattle.sha_core.specs.Fips180.{sha256}
use Rattle.key.specs.declared.sizes.Numbers.{Numbers}
use Rattle.key.specs.Numbers.{Of, key_with, of_with}
use Rattle.walk.specs.Lists.{hπ_from, hψ_from}
use Rattle.walk.specs.Walk.{Standing, Stood, stored, Walked, checks_at, hash_tests}
use Rattle.judge.specs.Lists.{parts_lists}

module _ (K : Key) (P : Parts) where
  pub form_refused : {n : ℕ} → first (form_checks K P) ≡ refused n → first (parts_checks K P) ≡ refused n
  unfolding parts_checks
  form_refused e =
      first_stops (form_checks K P ++ cat K.M (checks_at K P)) (hash_checks K P) (first_stops (form_checks K P) (cat K.M (checks_at K P)) e)

  pub form_kept : {n : ℕ} (x : List ℕ) → first (form_checks K P) ≡ refused n → x ≡ parts_lists K P x
  unfolding parts_lists is_accepted
  form_kept x e = sym (pick_false (is_accepted (first (form_checks K P))) (stored K P K.M x) x (ap is_accepted e))

-- a key that was read, and parts
module _ (k : Numbers) (entries : List ℕ) (P : Parts) where
  abbrev K : Key
  K = key_with k entries

  -- that their form has this verdict
  abbrev Formed : Verdict → Type 0
  Formed v = (K : Key) (Q : Parts) → Of k K → Q.p2 ≡ P.p2 → Q.p6 ≡ P.p6 → Q.p7 ≡ P.p7 → v ≡ first (form_checks K Q)

  pub form_is : {v : Verdict} → Formed v → first (form_checks K P) ≡ v
  form_is f = sym (f K P (of_with k entries) refl refl refl)

  -- of good form
  module _ (f : Formed accepted) where
    pub stands_of : Stood k.modulus.q k.n k.m k.parties k.executions k.opened k.depth entries P
    stands_of =
        record {
          sized = record { modulus = refl; columns = refl; parties = refl };
          rows = refl;
          executions = refl;
          openings = refl;
          deep = sym (k.deep.is (key_with k entries) refl);
          entry = λ j h. refl;
          second = refl;
          third = refl;
          fourth = refl;
          sixth = refl;
          seventh = refl;
          form = clean (form_checks (key_with k entries) P) (form_is f);
        }

    -- that were walked
    module _ {v : Verdict} {x lists : List ℕ}
        (walk : (K : Key) (Q : Parts) → Standing k.modulus.q k.n k.m k.parties k.executions k.opened k.depth entries P.p2 P.p3 P.p4 P.p6 P.p7 K Q → Walked K Q v x lists) where
      w : Walked K P v x lists
      w = walk K P stands_of

      pub walk_refused : {n : ℕ} → v ≡ refused n → first (parts_checks K P) ≡ refused n
      unfolding parts_checks
      walk_refused e =
          first_stops (form_checks K P ++ cat K.M (checks_at K P)) (hash_checks K P)
          (first_more (form_checks K P) (cat K.M (checks_at K P)) (form_is f) ∙ (sym w.verdict_is ∙ e))

      pub walk_lists : lists ≡ parts_lists K P x
      unfolding parts_lists is_accepted
      walk_lists = w.lists_are ∙ sym (pick_true (is_accepted (first (form_checks K P))) (stored K P K.M x) x (ap is_accepted (form_is f)))

      given_is : (a : ℕ) → a ≡ 16 * K.τ + 32 * kept_count K → take (a + 32 - a) (drop a P.p3) ≡ hπ_at K P
      unfolding hπ_at
      given_is a e =
          let x : a + 32 - a ≡ 32 = omega arith in
          ap (λ (y : ℕ). take y (drop a P.p3)) x ∙ ap (λ (y : ℕ). part P.p3 y 32) e

      pub hash_verdict : (a : ℕ) → a ≡ 16 * K.τ + 32 * kept_count K → v ≡ accepted
          → first
          (hash_tests P.p1 (sha256 (part lists 0 (32 * K.M))) (take (a + 32 - a) (drop a P.p3)) (sha256 (part lists (hπ_from K.M) (32 * kept_count K))) P.p5
          (sha256 (part lists (hψ_from K.M (kept_count K)) (32 * kept_count K))))
          ≡ first (parts_checks K P)
      unfolding parts_checks hash_checks
      hash_verdict a e z =
          let l = w.listed z in
          let tests :
          hash_tests P.p1 (sha256 (part lists 0 (32 * K.M))) (take (a + 32 - a) (drop a P.p3)) (sha256 (part lists (hπ_from K.M) (32 * kept_count K))) P.p5
          (sha256 (part lists (hψ_from K.M (kept_count K)) (32 * kept_count K)))
          ≡ hash_checks K P =
          λ i. hash_tests P.p1 (sha256 (l.hΓ i)) (given_is a e i) (sha256 (l.hπ i)) P.p5 (sha256 (l.hψ i)) in
          ap (λ (l : List Check). first l) tests
          ∙ sym
          (first_more (form_checks K P ++ cat K.M (checks_at K P)) (hash_checks K P)
          (first_more (form_checks K P) (cat K.M (checks_at K P)) (form_is f) ∙ (sym w.verdict_is ∙ z)))
