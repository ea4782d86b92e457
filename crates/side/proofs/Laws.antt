-- The reply, the seed κ and part 4 of an accepted file as slices of it, and what is known of them.
-- Assumes nothing.
use Prim.Native.Nat.{ℕ, ◌+◌, ◌*◌, ◌<◌, ◌≤◌}
use mathlib.Core.Path.{◌≡◌, refl, sym, ◌∙◌, ap, ap₂, subst}
use mathlib.Core.List.{List}
use native.Mathlib.Omega.{arith}
use lib.ListN.{length, take, drop}
use Rattle.lists.specs.Index.{part}
use Rattle.lists.specs.CatLaws.{part_length}
use Rattle.lists.specs.Bytes.{num}
use Rattle.numbers.specs.Sum.{sum}
use Rattle.protocol.specs.Key.{Key, depth}
use Rattle.protocol.specs.Transcript.{Parts, parts_of}
use Rattle.protocol.specs.Judge.{reply_size, reply_at, given, κ, kept_view}
use Rattle.protocol.specs.Accepts.{GoodParts}
use Rattle.protocol.proofs.Facts.{run_facts}
use Rattle.key.specs.declared.sizes.Numbers.{Numbers}
use Rattle.key.specs.Numbers.{Of, key_with, of_with}
use Rattle.transcript.specs.Replies.{size_kept, reply-within}
use Rattle.execution.specs.Shown.{Sized}
use Rattle.execution.specs.Prepared.{Kept, Given, given_of, last_count}
use Rattle.execution.proofs.Held.{given_count_lem}
use Rattle.kept.specs.Kept.{KeptIn}
use Rattle.inputs.specs.Layout.{Written}
use Rattle.fork.specs.Fork.{Headed, accepted_headed}
use Rattle.side.specs.Side.{Sided, Sound}

pub sided : {q n m N D hid e : ℕ} {reply kappa seed entries leaves inputs work : List ℕ} {K : Key} {P : Parts} → Kept q m N D hid reply leaves work
    → KeptIn q n m N D hid e reply kappa seed entries K P
    → (KeptIn q n m N D hid e reply kappa seed entries K P → Written K (kept_view K P e) (κ K P) P.p4 inputs) → Sided K P e inputs work
sided {q} {n} {m} {N} {D} {hid} {e} {reply} {kappa} {seed} {entries} {leaves} {inputs} {work} {K} {P} kept so written =
    record { written = written so; leaves = leaves; shown = kept.shown K P e so.sized so.deep so.hides so.at }

-- ---- a kept execution of an accepted file
module _ {k : Numbers} {entries x : List ℕ} {e hid : ℕ} (so : Sound k entries x e hid) where
  abbrev K : Key
  K = key_with k entries

  abbrev P : Parts
  P = parts_of x

  pub headed : Headed k x
  headed = accepted_headed k K x (of_with k entries) so.accepted

  parts : GoodParts K P
  parts = (run_facts K x so.accepted).1

  -- the parts as slices of the file
  module _ {Q : Parts} (split : Q ≡ parts_of x) where
    part_is : (part : Parts → List ℕ) → part P ≡ part Q
    part_is part = ap part (sym split)

    pub seed-long : length Q.p4 ≡ 16
    seed-long = ap length (sym (part_is (λ P. P.p4))) ∙ parts.long4

    long7 : 16 + sum k.executions (reply_size K P) ≡ length Q.p7
    long7 = sym parts.long7 ∙ ap length (part_is (λ P. P.p7))

    pub κ_in : 16 ≤ length Q.p7
    κ_in = omega (arith, long7)

    -- the place and the length of the reply, as `reply_start` and `reply_length` have them
    module _
        {at size : ℕ}
        (start : (K : Key) (P : Parts) → Of k K → P.p2 ≡ Q.p2 → P.p6 ≡ Q.p6 → at ≡ 16 + sum e (reply_size K P))
        (long : (K : Key) (P : Parts) → Of k K → P.p2 ≡ Q.p2 → P.p6 ≡ Q.p6 → size ≡ reply_size K P e)
      where
        here : at ≡ 16 + sum e (reply_size K P)
        here = start K P (of_with k entries) (part_is (λ P. P.p2)) (part_is (λ P. P.p6))

        wide : size ≡ reply_size K P e
        wide = long K P (of_with k entries) (part_is (λ P. P.p2)) (part_is (λ P. P.p6))

        pub reply_in : at + size ≤ length Q.p7
        reply_in = omega (arith, here, wide, long7, reply-within K P e k.executions so.within)

        reply_slice : {from count : ℕ} → from ≡ at → count ≡ size → reply_at K P e ≡ take count (drop from Q.p7)
        unfolding reply_at
        reply_slice f c =
            ap (λ (l : List ℕ). part l (16 + sum e (reply_size K P)) (reply_size K P e)) (part_is (λ P. P.p7))
            ∙ ap₂ (λ (a b : ℕ). take b (drop a Q.p7)) (sym (f ∙ here)) (sym (c ∙ wide))

        sized : Sized k.modulus.q k.m k.parties K
        sized = record { modulus = refl; columns = refl; parties = refl }

        deep : depth K ≡ k.depth
        deep = sym (k.deep.is K refl)

        -- of every slice of that size that begins no later
        pub reply-long : (from count : ℕ) → from ≤ at → count ≡ size
            → length (take count (drop from Q.p7)) ≡ 16 * k.depth + 32 + 4 * (k.m + 1 + last_count k.m k.parties hid)
        reply-long from count h c =
            let w : size ≡ 16 * k.depth + 32 + 4 * (k.m + 1 + last_count k.m k.parties hid) =
            wide ∙ (size_kept K P e so.kept ∙ ap₂ (λ (a b : ℕ). 16 * a + 32 + 4 * b) deep (given_count_lem K P e sized so.hides)) in
            omega (arith, part_length Q.p7 from count (omega (arith, reply_in)), c, w)

        pub reply_given : (from count : ℕ) → from ≡ at → count ≡ size → Given k.modulus.q k.m k.parties k.depth hid (take count (drop from Q.p7))
        unfolding given
        reply_given from count f c =
            record {
              below = λ j h.
                  subst (λ (y : ℕ). y < k.modulus.q) (ap₂ (λ (l : List ℕ) (y : ℕ). num (given_of y l) j) (reply_slice f c) deep)
                  (parts.below e so.within so.kept j (subst (λ (y : ℕ). j < y) (sym (given_count_lem K P e sized so.hides)) h));
            }

        pub kept_in : {from count : ℕ} {kappa seed : List ℕ} → from ≡ at → count ≡ size → kappa ≡ take 16 Q.p7 → seed ≡ Q.p4
            → KeptIn k.modulus.q k.n k.m k.parties k.depth hid e (take count (drop from Q.p7)) kappa seed entries K P
        kept_in f c ek es =
            record {
              sized = sized;
              rows = refl;
              entry = λ j h. refl;
              deep = deep;
              hides = so.hides;
              at = reply_slice f c;
              κ_is = ap (take 16) (part_is (λ P. P.p7)) ∙ sym ek;
              l_is = part_is (λ P. P.p4) ∙ sym es;
            }
