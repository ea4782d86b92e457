-- Honest acceptance: a transcript made of the prover's own messages is accepted, whichever valid challenges came.
-- Assumes nothing.
use Prim.Native.Nat.{ℕ, zero, suc, ◌+◌, ◌%◌, ◌<◌}
use mathlib.Core.Path.{◌≡◌, refl, sym, ◌∙◌, ap, subst}
use mathlib.Core.Bool.{Bool, true, false}
use mathlib.Core.List.{List, [], ◌++◌}
use native.Mathlib.Omega.{arith}
use borrow.Author.Tests.{eqb-false}
use lib.ListN.{length, get_or, take}
use Rattle.lists.specs.Index.{pick, same}
use Rattle.lists.specs.Check.{accepted, first}
use Rattle.lists.specs.CatLaws.{cat_ext}
use Rattle.lists.specs.TestLaws.{clean, clean-left, clean-right, pick_true, pick_false}
use Rattle.numbers.specs.Sum.{sum}
use Rattle.protocol.specs.Key.{Key, key_of, key_checks}
use Rattle.protocol.specs.Shares.{H, input, View, Γ, Γin, hin, Ωin, Πin, Ψin, o, dealt}
use Rattle.protocol.specs.Prover.{opened, kept, prover_view, master, hΓin, hπin, hψin, message1, message5, checks7}
use Rattle.protocol.specs.Transcript.{Parts, sizes, list, transcript}
use Rattle.protocol.specs.Honest.{honest_parts}
use Rattle.protocol.specs.Judge.{hidden, hides_n, reply_size, Ω_at, hπ_at, opened_view, kept_view, view, judge}
use Rattle.protocol.specs.Accepts.{GoodKey, GoodParts, GoodValues}
use Rattle.protocol.proofs.Facts.{key_facts, e_rising, opened_within, hidden_from, hidden_to, accepted_by}
use Rattle.protocol.proofs.Opened.{e_length}
use Rattle.protocol.proofs.HonestSum.{dealt_zero}
use Rattle.protocol.proofs.Sees.{Sees, sees_hin, sees_Ωin, sees_Πin, sees_Ψin, sees_sum}
use Rattle.protocol.proofs.Sizes.{message1-length, message3_length, message5_length, message7_length, replies_most, hidden_length}
use Rattle.protocol.proofs.Header.{item, before, parts_back, header_good}
use Rattle.protocol.proofs.HonestParts.{Valid, valid, master_at_lem, Ω_at_lem, hπ_at_lem, κ_at, sizes_are, sees, given_lt}

-- h(e) does not depend on the secret.
hin_secret : (K : Key) (e : ℕ) (seed : List ℕ) (x y : ℕ → ℕ) → hin K (dealt K e seed x) ≡ hin K (dealt K e seed y)
unfolding hin Γ Γin dealt
hin_secret K e seed x y = refl

module _ (K : Key) (seeds secret E κ L hid : List ℕ) (G : GoodKey K) (I : Valid K seeds secret E κ L hid) where
  abbrev P : Parts
  P = honest_parts K seeds secret E κ L hid

  abbrev whole : ℕ → View
  whole e = prover_view K seeds secret e

  abbrev seen : (e : ℕ) → e < K.M → opened E e ≡ false → Sees K L (whole e) (kept_view K P e)
  seen = sees K seeds secret E κ L hid G I

  -- 7, 10, 13, 14
  seven_long : length P.p7 ≡ 16 + sum K.M (reply_size K P)
  seven_long =
      message7_length K seeds secret E L hid I.e_good I.hidden_good κ I.κ_long
      ∙ ap (λ x. 16 + x) (sym (sizes_are K seeds secret E κ L hid G I K.M))

  -- 16, 15
  whole_zero : (e : ℕ) → sum K.N (o K (whole e) L) % K.q ≡ 0
  unfolding prover_view
  whole_zero e = dealt_zero K e (master K seeds secret e) (λ k. get_or secret k 0) G.q G.N L I.solution

  Ω_same : (e : ℕ) → e < K.M → opened E e ≡ false → hides_n K P e ≡ false → Ω_at K P e ≡ H (Ωin K (kept_view K P e))
  unfolding hidden kept_view
  Ω_same e h c n = Ω_at_lem K seeds secret E κ L hid G I e h c ∙ ap H (sym (sees_Ωin K L _ _ (seen e h c) (eqb-false _ _ n)))

  -- 17, 18, 19
  pub view_kept : (e : ℕ) → opened E e ≡ false → view K P e ≡ kept_view K P e
  unfolding view
  view_kept e c = pick_false (opened E e) (opened_view K P e) (kept_view K P e) c

  view_opened : (e : ℕ) → opened E e ≡ true → view K P e ≡ opened_view K P e
  unfolding view
  view_opened e c = pick_true (opened E e) (opened_view K P e) (kept_view K P e) c

  pub view_sees : (e : ℕ) → e < K.M → opened E e ≡ false → Sees K L (whole e) (view K P e)
  view_sees e h c = subst (Sees K L (whole e)) (sym (view_kept e c)) (seen e h c)

  hin_view : (e : ℕ) → e < K.M → hin K (view K P e) ≡ hin K (prover_view K seeds [] e)
  unfolding opened_view prover_view
  hin_view e h = go (opened E e) refl
    where
      go : (t : Bool) → opened E e ≡ t → hin K (view K P e) ≡ hin K (prover_view K seeds [] e)
      go true c =
          ap (hin K) (view_opened e c) ∙ ap (λ x. hin K (dealt K e x (λ k. 0))) (master_at_lem K seeds secret E κ L hid G I e h c)
      go false c =
          sees_hin K L _ _ (view_sees e h c) ∙ hin_secret K e (master K seeds secret e) _ _

  pub hΓin_is : hΓin K (view K P) ≡ hΓin K (prover_view K seeds [])
  unfolding hΓin
  hΓin_is = ap (input 1 0 0) (cat_ext K.M (λ e h. ap H (hin_view e h)))

  hΓ_same : P.p1 ≡ H (hΓin K (view K P))
  unfolding message1
  hΓ_same = sym (ap H hΓin_is)

  -- What is joined of the kept executions.
  kept_same : (f g : ℕ → List ℕ) → ((e : ℕ) → e < K.M → opened E e ≡ false → f e ≡ g e) → kept K E f ≡ kept K E g
  unfolding kept
  kept_same f g same = cat_ext K.M (λ e h. go e h (opened E e) refl)
    where
      go : (e : ℕ) → e < K.M → (t : Bool) → opened E e ≡ t → pick t [] (f e) ≡ pick t [] (g e)
      go e h true c = refl
      go e h false c = same e h c

  -- the inputs of a kept execution, with the seed K that part 7 begins with
  pub Πin_is : (e : ℕ) → e < K.M → opened E e ≡ false → Πin K (view K P e) (take 16 P.p7) ≡ Πin K (whole e) κ
  Πin_is e h c =
      sees_Πin K L _ _ (view_sees e h c) (take 16 P.p7) ∙ ap (Πin K (whole e)) (κ_at K seeds secret E κ L hid G I)

  pub Ψin_is : (e : ℕ) → e < K.M → opened E e ≡ false → Ψin K (view K P e) (take 16 P.p7) L ≡ Ψin K (whole e) κ L
  Ψin_is e h c =
      sees_Ψin K L _ _ (view_sees e h c) (take 16 P.p7) ∙ ap (λ x. Ψin K (whole e) x L) (κ_at K seeds secret E κ L hid G I)

  pub hπin_is : hπin K (view K P) E (take 16 P.p7) ≡ hπin K whole E κ
  unfolding hπin
  hπin_is = ap (input 5 0 0) (kept_same _ _ (λ e h c. ap H (Πin_is e h c)))

  pub hψin_is : hψin K (view K P) E (take 16 P.p7) L ≡ hψin K whole E κ L
  unfolding hψin
  hψin_is = ap (input 7 0 0) (kept_same _ _ (λ e h c. ap H (Ψin_is e h c)))

  hπ_same : hπ_at K P ≡ H (hπin K (view K P) E (take 16 P.p7))
  hπ_same = hπ_at_lem K seeds secret E κ L hid G I ∙ sym (ap H hπin_is)

  hψ_same : P.p5 ≡ H (hψin K (view K P) E (take 16 P.p7) L)
  unfolding message5
  hψ_same = sym (ap H hψin_is)

  -- 12
  six_long : (i : ℕ) → i < 6 → length (item P i) ≡ get_or (sizes K) i 0
  unfolding list sizes
  six_long zero h = message1-length K seeds
  six_long (suc zero) h = e_length K E I.e_good
  six_long (suc (suc zero)) h = message3_length K seeds secret E κ I.seeds_long I.e_good
  six_long (suc (suc (suc zero))) h = I.l_long
  six_long (suc (suc (suc (suc zero)))) h = message5_length K seeds secret E κ L
  six_long (suc (suc (suc (suc (suc zero))))) h = hidden_length K hid I.hidden_good
  six_long (suc (suc (suc (suc (suc (suc i)))))) h = absurd (omega arith)

  pub small : 56 + before P 7 < 4294967296
  unfolding list sum
  small =
      omega (
        arith,
        message1-length K seeds,
        e_length K E I.e_good,
        message3_length K seeds secret E κ I.seeds_long I.e_good,
        I.l_long,
        message5_length K seeds secret E κ L,
        hidden_length K hid I.hidden_good,
        message7_length K seeds secret E L hid I.e_good I.hidden_good κ I.κ_long,
        replies_most K G E hid,
        G.executions_most,
        G.τ_below,
      )

  -- what the judge asks of the parts, and of the values
  parts_good : GoodParts K P
  parts_good =
      record {
        long1 = message1-length K seeds;
        long2 = e_length K E I.e_good;
        long3 = message3_length K seeds secret E κ I.seeds_long I.e_good;
        long4 = I.l_long;
        long5 = message5_length K seeds secret E κ L;
        long6 = hidden_length K hid I.hidden_good;
        long7 = seven_long;
        e_rises = λ j h. e_rising K E I.e_good j (omega (arith, e_length K E I.e_good));
        e_most = λ j h. opened_within K E I.e_good j (omega (arith, e_length K E I.e_good));
        hidden_least = λ j h. hidden_from K hid I.hidden_good j (omega (arith, hidden_length K hid I.hidden_good));
        hidden_most = λ j h. hidden_to K hid I.hidden_good j (omega (arith, hidden_length K hid I.hidden_good));
        below = given_lt K seeds secret E κ L hid G I;
      }

  values_good : GoodValues K P
  values_good =
      record {
        Ω = Ω_same;
        zero_sum = λ e h c. ap (λ x. x % K.q) (sees_sum K L _ _ (seen e h c)) ∙ whole_zero e;
        hΓ = hΓ_same;
        hπ = hπ_same;
        hψ = hψ_same;
      }

-- Every transcript made of the prover's messages, for inputs that its checks pass, is accepted.
pub honest_accepted : (key seeds secret E κ L hid : List ℕ)
    → first (key_checks (key_of key) key ++ checks7 (key_of key) seeds secret E κ L hid) ≡ accepted
    → judge key (transcript (honest_parts (key_of key) seeds secret E κ L hid)) ≡ accepted
honest_accepted key seeds secret E κ L hid e =
    let c = clean (key_checks (key_of key) key ++ checks7 (key_of key) seeds secret E κ L hid) e in
    let k = key_facts (key_of key) key (clean-left (key_checks (key_of key) key) (checks7 (key_of key) seeds secret E κ L hid) c) in
    let G : GoodKey (key_of key) = k.1 in
    let I = valid (key_of key) seeds secret E κ L hid G (clean-right (key_checks (key_of key) key) _ c) in
    let P = honest_parts (key_of key) seeds secret E κ L hid in
    let size = small (key_of key) seeds secret E κ L hid G I in
    accepted_by key (transcript P)
    (record {
      long = k.0;
      good_key = G;
      good_header_lem = header_good P size (key_of key) (six_long (key_of key) seeds secret E κ L hid G I);
      good_parts = subst (GoodParts (key_of key)) (sym (parts_back P size)) (parts_good (key_of key) seeds secret E κ L hid G I);
      good_values = subst (GoodValues (key_of key)) (sym (parts_back P size)) (values_good (key_of key) seeds secret E κ L hid G I);
    })
