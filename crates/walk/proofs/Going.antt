-- The walk's digests and its first refusal, one execution more and at the end.
-- Assumes nothing.
use Prim.Native.Nat.{ℕ, zero, suc, ◌+◌, ◌*◌, ◌-◌, ◌<◌, ◌≤◌}
use mathlib.Core.Path.{◌≡◌, refl, sym, ◌∙◌, ap, subst}
use mathlib.Core.Bool.{Bool, true}
use mathlib.Core.Logic.{⊎_elim}
use mathlib.Core.List.{List, [], ◌++◌}
use native.Mathlib.Nat.{eq-or-lt_of_le}
use native.Mathlib.Numerals.{add-one}
use native.Mathlib.Omega.{arith}
use lib.ListN.{length}
use Rattle.lists.specs.Index.{pick, cat, count, part}
use Rattle.lists.specs.Check.{Verdict, accepted, refused, first}
use Rattle.lists.specs.CatLaws.{cat_zero, cat-more}
use Rattle.lists.specs.TestLaws.{decide, pick_true, pick_false, count_zero, count_hit, count_miss, count-le, count-not, first-cat_zero, first-cat-next, first-cat_stops}
use Rattle.numbers.proofs.Sum.{sum_zero}
use Rattle.protocol.specs.Key.{Key, kept_count}
use Rattle.protocol.specs.Shares.{input}
use Rattle.protocol.specs.Prover.{opened, rank, place, kept, hΓin, hπin, hψin, good_e}
use Rattle.protocol.specs.Transcript.{Parts}
use Rattle.protocol.specs.Judge.{reply_size}
use Rattle.protocol.specs.Pair.{is_accepted}
use Rattle.protocol.proofs.Opened.{opened-count}
use Rattle.walk.specs.Lists.{lists_size}
use Rattle.walk.specs.Walk.{Reached, Stepped, placed, stored, Going, Walked, checks_at, hash_at, Π_at, Ψ_at}

Is_refused : Verdict → Type 0
Is_refused accepted = ⊥
Is_refused (refused n) = Unit {0}

module _ (K : Key) (P : Parts) where
  pub reached_first : Reached 0 0 16 K P
  unfolding rank
  reached_first = record { rank_is = count_zero (opened P.p2); at_is = ap (λ (x : ℕ). 16 + x) (sum_zero (reply_size K P)) }

  pub going_first : (M c : ℕ) (lists : List ℕ) → Going K P M c 0 0 16 lists lists
  unfolding stored
  going_first M c lists =
      record {
        reached = reached_first;
        lists_are = refl;
        Γs = sym (cat_zero (hash_at K P));
        Πs = sym (cat_zero (λ j. pick (opened P.p2 j) [] (Π_at K P j)));
        Ψs = sym (cat_zero (λ j. pick (opened P.p2 j) [] (Ψ_at K P j)));
        clean = first-cat_zero (checks_at K P);
      }

  -- one item more
  one_more : {x d : List ℕ} (a b : ℕ) {n e : ℕ} (y : List ℕ) (f : ℕ → List ℕ) → part y a b ≡ x ++ d → x ≡ cat e f → d ≡ f e → n ≡ b → part y a n ≡ cat (e + 1) f
  one_more {x} {d} a b {n} {e} y f is h g w =
      ap (λ (z : ℕ). part y a z) w ∙ (is ∙ ((λ i. h i ++ g i) ∙ sym (cat-more e f)))

  -- the place among the kept of the next execution
  next_place : {e r r' at at' : ℕ} {t : Bool} → Reached e r at K P → Reached (e + 1) r' at' K P → t ≡ opened P.p2 e → 32 * (e + 1 - r') ≡ 32 * (e - r) + pick t 0 32
  unfolding rank
  next_place {e} {r} {r'} {at} {at'} {t} here next is =
      ⊎_elim
      (λ y. ap (λ (z : ℕ). 32 * z) (let k : e + 1 - r' ≡ e - r = omega (arith, here.rank_is, next.rank_is, count_hit e (opened P.p2) y) in k)
      ∙ (let w : 32 * (e - r) ≡ 32 * (e - r) + 0 = omega arith in w ∙ ap (λ (z : ℕ). 32 * (e - r) + z) (sym (pick_true t 0 32 (is ∙ y)))))
      (λ y. ap (λ (z : ℕ). 32 * z) (let k : e + 1 - r' ≡ e - r + 1 = omega (arith, here.rank_is, next.rank_is, count_miss e (opened P.p2) y, count-le e (opened P.p2)) in k)
      ∙ (let w : 32 * (e - r + 1) ≡ 32 * (e - r) + 32 = omega arith in w ∙ ap (λ (z : ℕ). 32 * (e - r) + z) (sym (pick_false t 0 32 (is ∙ y)))))
      (decide (opened P.p2 e))

  pub place_at : {e r at : ℕ} → Reached e r at K P → place P.p2 e ≡ e - r
  unfolding place rank
  place_at {e} here = omega (arith, here.rank_is, count-not e (opened P.p2))

  -- the list after an execution that is not refused, and from the first refusal on
  stored_next : (e : ℕ) (x₀ : List ℕ) {x y : List ℕ} → first (cat (e + 1) (checks_at K P)) ≡ accepted → x ≡ stored K P e x₀
      → y ≡ placed K.M (kept_count K) e (place P.p2 e) (opened P.p2 e) (hash_at K P e) (Π_at K P e) (Ψ_at K P e) x → y ≡ stored K P (e + 1) x₀
  unfolding stored is_accepted
  stored_next e x₀ {x} {y} good ex is =
      is
      ∙ (ap (λ (l : List ℕ). placed K.M (kept_count K) e (place P.p2 e) (opened P.p2 e) (hash_at K P e) (Π_at K P e) (Ψ_at K P e) l) ex
      ∙ (sym (pick_true (is_accepted (first (cat (suc e) (checks_at K P)))) _ _ (ap is_accepted (ap (λ (j : ℕ). first (cat j (checks_at K P))) (sym (add-one e)) ∙ good)))
      ∙ ap (λ (j : ℕ). stored K P j x₀) (sym (add-one e))))

  stored_stops : (n : ℕ) {e k : ℕ} (x₀ : List ℕ) → e ≤ n → first (cat e (checks_at K P)) ≡ accepted → first (checks_at K P e) ≡ refused k → stored K P n x₀ ≡ stored K P e x₀
  unfolding stored is_accepted
  stored_stops zero {e} x₀ h good bad = ap (λ (j : ℕ). stored K P j x₀) (let z : 0 ≡ e = omega arith in z)
  stored_stops (suc n) {e} x₀ h good bad =
      ⊎_elim (λ z. ap (λ (j : ℕ). stored K P j x₀) (sym z))
      (λ l. pick_false (is_accepted (first (cat (suc n) (checks_at K P)))) _ _ (ap is_accepted (first-cat_stops (suc n) e (checks_at K P) l good bad))
      ∙ stored_stops n x₀ (omega (arith, l)) good bad)
      (eq-or-lt_of_le h)

  -- one execution more
  going_step : {e r at r' at' : ℕ} {x₀ x y : List ℕ} → Going K P K.M (kept_count K) e r at x₀ x → Stepped K P e r' at' x y → first (checks_at K P e) ≡ accepted
      → Going K P K.M (kept_count K) (e + 1) r' at' x₀ y
  going_step {e} {r} {at} {r'} {at'} {x₀} {x} {y} so step passes =
      let w : 32 * (e + 1) ≡ 32 * e + 32 = omega arith in
      let good : first (cat (e + 1) (checks_at K P)) ≡ accepted = first-cat-next e (checks_at K P) so.clean passes in
      let here : place P.p2 e ≡ e - r = place_at so.reached in
      let next : 32 * (e + 1 - r') ≡ 32 * place P.p2 e + pick (opened P.p2 e) 0 32 =
      next_place so.reached step.next refl ∙ ap (λ (p : ℕ). 32 * p + pick (opened P.p2 e) 0 32) (sym here) in
      record {
        reached = step.next;
        lists_are = stored_next e x₀ good so.lists_are step.lists_are;
        Γs = one_more 0 (32 * e + 32) y (hash_at K P) step.stored.Γ so.Γs refl w;
        Πs =
            one_more (32 * K.M) (32 * place P.p2 e + pick (opened P.p2 e) 0 32) y (λ j. pick (opened P.p2 j) [] (Π_at K P j)) step.stored.Π
            (ap (λ (p : ℕ). part x (32 * K.M) (32 * p)) here ∙ so.Πs) refl next;
        Ψs =
            one_more (32 * K.M + 32 * kept_count K) (32 * place P.p2 e + pick (opened P.p2 e) 0 32) y (λ j. pick (opened P.p2 j) [] (Ψ_at K P j)) step.stored.Ψ
            (ap (λ (p : ℕ). part x (32 * K.M + 32 * kept_count K) (32 * p)) here ∙ so.Ψs) refl next;
        clean = good;
      }

  -- by the numbers of the code
  by_key : {M c e r at : ℕ} {x₀ x : List ℕ} → K.M ≡ M → kept_count K ≡ c → Going K P M c e r at x₀ x → Going K P K.M (kept_count K) e r at x₀ x
  by_key {M} {c} {e} {r} {at} {x₀} {x} em ec so =
      subst (λ (y : ℕ). Going K P y (kept_count K) e r at x₀ x) (sym em) (subst (λ (y : ℕ). Going K P M y e r at x₀ x) (sym ec) so)

  pub going_next : {M c e r at r' at' : ℕ} {x₀ x y : List ℕ} → K.M ≡ M → kept_count K ≡ c → Going K P M c e r at x₀ x → Stepped K P e r' at' x y
      → first (checks_at K P e) ≡ accepted → Going K P M c (e + 1) r' at' x₀ y
  going_next {M} {c} {e} {r} {at} {r'} {at'} {x₀} {x} {y} em ec so step passes =
      subst (λ (z : ℕ). Going K P z c (e + 1) r' at' x₀ y) em
      (subst (λ (z : ℕ). Going K P K.M z (e + 1) r' at' x₀ y) ec (going_step (by_key em ec so) step passes))

  -- the first refusal
  pub walk_stops : {M c e r at n : ℕ} {x₀ x : List ℕ} → Going K P M c e r at x₀ x → e < K.M → first (checks_at K P e) ≡ refused n → Walked K P (refused n) x₀ x
  unfolding Is_refused
  walk_stops {M} {c} {e} {r} {at} {n} {x₀} {x} so below bad =
      record {
        verdict_is = sym (first-cat_stops K.M e (checks_at K P) below so.clean bad);
        lists_are = so.lists_are ∙ sym (stored_stops K.M x₀ (omega arith) so.clean bad);
        listed = λ z. absurd (refused_not z);
      }
    where
      refused_not : {m : ℕ} → refused m ≡ accepted → ⊥
      refused_not z = subst (λ (v : Verdict). Is_refused v) z tt

  -- all executions are done
  all_done : {e r at : ℕ} {x₀ x : List ℕ} → good_e K P.p2 ≡ true → Going K P K.M (kept_count K) e r at x₀ x → e ≡ K.M
      → length x ≡ lists_size K.M (kept_count K) → Walked K P accepted x₀ x
  unfolding hΓin hπin hψin kept input rank
  all_done {e} {r} {at} {x₀} {x} good so z long =
      let done : first (cat K.M (checks_at K P)) ≡ accepted = subst (λ (y : ℕ). first (cat y (checks_at K P)) ≡ accepted) z so.clean in
      let ranked : count K.M (opened P.p2) ≡ r = ap (λ (y : ℕ). count y (opened P.p2)) (sym z) ∙ so.reached.rank_is in
      let kept_all : kept_count K ≡ e - r = omega (arith, ranked, opened-count K P.p2 good, z) in
      record {
        verdict_is = sym done;
        lists_are = so.lists_are ∙ ap (λ (y : ℕ). stored K P y x₀) z;
        listed = λ _.
            record {
              long = long;
              hΓ = ap (λ (y : ℕ). part x 0 (32 * y)) (sym z) ∙ (so.Γs ∙ ap (λ (y : ℕ). cat y (hash_at K P)) z);
              hπ = ap (λ (y : ℕ). part x (32 * K.M) (32 * y)) kept_all ∙ (so.Πs ∙ ap (λ (y : ℕ). cat y (λ j. pick (opened P.p2 j) [] (Π_at K P j))) z);
              hψ =
                  ap (λ (y : ℕ). part x (32 * K.M + 32 * kept_count K) (32 * y)) kept_all
                  ∙ (so.Ψs ∙ ap (λ (y : ℕ). cat y (λ j. pick (opened P.p2 j) [] (Ψ_at K P j))) z);
            };
      }

  pub walk_ends : {M c e r at : ℕ} {x₀ x : List ℕ} → K.M ≡ M → kept_count K ≡ c → good_e K P.p2 ≡ true → Going K P M c e r at x₀ x → e ≡ M
      → length x ≡ lists_size M c → Walked K P accepted x₀ x
  walk_ends em ec good so z long = all_done good (by_key em ec so) (z ∙ sym em) (long ∙ sym (λ i. lists_size (em i) (ec i)))
