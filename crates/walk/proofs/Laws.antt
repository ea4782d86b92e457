-- One execution of the walk: its bounds, and what the code computes of it is what document 01 says.
-- Assumes nothing.
use Prim.Native.Nat.{ℕ, suc, ◌^◌, ◌+◌, ◌*◌, ◌-◌, ◌<◌, ◌≤◌}
use mathlib.Core.Path.{◌≡◌, sym, ◌∙◌, ap, ap₂, subst}
use mathlib.Core.Bool.{Bool, true, false, not}
use mathlib.Core.Logic.{⊎_elim}
use mathlib.Core.List.{List, []}
use native.Mathlib.Omega.{arith}
use borrow.Author.Tests.{eqb-true, leb-true, eq-eqb, not-false}
use lib.Dec.{eqb, leb, ltb}
use lib.ListN.{length, get_or, take, drop}
use Rattle.lists.specs.Index.{pick, every, same, part}
use Rattle.lists.specs.Check.{accepted, first}
use Rattle.lists.specs.TestLaws.{decide, clash, pick_true, pick_false, every-at, count_hit, count_miss, count_below, count-le, count_mono, count-not, holds-each, first_nil}
use Rattle.numbers.specs.Sum.{sum}
use Rattle.sha_core.specs.Fips180.{sha256}
use Rattle.protocol.specs.Key.{Key, depth, kept_count}
use Rattle.protocol.specs.Shares.{View, hin, Πin, Ψin, Ωin, dealt}
use Rattle.protocol.specs.Prover.{opened, rank, place, hidden_of, good_e, good_hidden}
use Rattle.protocol.specs.Transcript.{Parts}
use Rattle.protocol.specs.Judge.{hidden, given_count, reply_size, reply_at, given, κ, master_at, Ω_at, opened_view, kept_view, view, good_numbers, form_checks, execution_checks}
use Rattle.protocol.proofs.Opened.{opened-count, place-lt}
use Rattle.protocol.proofs.Sizes.{hidden_length, hidden_lt}
use Rattle.execution.specs.Prepared.{Given, last_count}
use Rattle.execution.proofs.Held.{given_count_lem, given_good}
use Rattle.transcript.specs.Replies.{size_kept, at-opened, at-kept, reply-within}
use Rattle.views.specs.Opened.{OpenedHash}
use Rattle.kept.specs.Kept.{KeptIn, Evaluates}
use Rattle.walk.specs.Lists.{lists_size}
use Rattle.walk.specs.Walk.{Standing, Reached, Stored, Stepped, kept_tests, put, checks_at, hash_at, Π_at, Ψ_at}
use Rattle.walk.proofs.Stores.{stored-opened, stored-kept}
use Rattle.walk.proofs.Going.{place_at}

-- ---- one execution
module _ {q n m N M τ D : ℕ} {entries p2 p3 p4 p6 p7 : List ℕ} {K : Key} {P : Parts} (so : Standing q n m N M τ D entries p2 p3 p4 p6 p7 K P) where
  pub good_e_lem : good_e K P.p2 ≡ true
  unfolding form_checks
  good_e_lem = not-false _ so.form.0

  good_hidden_lem : good_hidden K P.p6 ≡ true
  unfolding form_checks
  good_hidden_lem = not-false _ so.form.1.0

  replies_long : length P.p7 ≡ 16 + sum K.M (reply_size K P)
  unfolding form_checks
  replies_long = eqb-true _ _ (not-false _ so.form.1.1.0)

  good-numbers : good_numbers K P ≡ true
  unfolding form_checks
  good-numbers = not-false _ so.form.1.1.1.0

  pub depth_most : D ≤ 5
  unfolding depth
  depth_most = omega (arith, so.deep, count-le 5 (λ j. leb (2 ^ suc j) K.N))

  pub replies_least : 16 ≤ length p7
  replies_least = subst (λ (x : List ℕ). 16 ≤ length x) so.seventh (omega (arith, replies_long))

  module _ {e r at : ℕ} (here : Reached e r at K P) (before : e < M) where
    inside : e < K.M
    inside = omega (arith, so.executions)

    -- the place among the kept, were it kept
    pub place_most : (r ≤ e) × (e - r ≤ M - τ)
    unfolding rank
    place_most =
        let p = opened P.p2 in (
          omega (arith, here.rank_is, count-le e p),
          omega (arith, here.rank_is, so.executions, so.openings, opened-count K P.p2 good_e_lem, count-not e p, count-not K.M p, count_mono (λ j. not (p j)) e K.M (omega (arith, inside))),
        )

    place_is : place P.p2 e ≡ e - r
    place_is = place_at K P here

    place_within : place P.p2 e ≤ kept_count K
    place_within = omega (arith, place_is, place_most.1, so.executions, so.openings)

    long_by : (x : List ℕ) → length x ≡ lists_size M (M - τ) → length x ≡ 32 * K.M + 64 * kept_count K
    long_by x h = omega (arith, h, so.executions, so.openings)

    -- ---- opened by master seed
    module _ (t : opened p2 e ≡ true) where
      opened_p : opened P.p2 e ≡ true
      opened_p = ap (λ (x : List ℕ). opened x e) so.second ∙ t

      pub rank_below : r < τ
      unfolding rank
      rank_below =
          omega (arith, here.rank_is, so.openings, opened-count K P.p2 good_e_lem, count_below K.M (opened P.p2) e inside opened_p)

      pub none_opened : accepted ≡ first (checks_at K P e)
      none_opened = sym (ap first (pick_true (opened P.p2 e) [] (execution_checks K P e) opened_p) ∙ first_nil)

      view_opened : view K P e ≡ dealt K e (take (16 * r + 16 - 16 * r) (drop (16 * r) p3)) (λ k. 0)
      unfolding view opened_view master_at
      view_opened =
          let w : 16 ≡ 16 * r + 16 - 16 * r = omega arith in
          pick_true (opened P.p2 e) (opened_view K P e) (kept_view K P e) opened_p
          ∙ ap (λ (x : List ℕ). dealt K e x (λ k. 0))
          (ap₂ (λ (x : List ℕ) (y : ℕ). part x (16 * y) 16) so.third here.rank_is ∙ ap (λ (x : ℕ). take x (drop (16 * r) p3)) w)

      pub opened_step : {h x : List ℕ} → length h ≡ 32 → length x ≡ lists_size M (M - τ) → OpenedHash q m N D e (take (16 * r + 16 - 16 * r) (drop (16 * r) p3)) h
          → Stepped K P e (r + 1) at x (put x (32 * e) 32 h)
      unfolding rank
      opened_step {h} {x} lh lx made =
          let is : h ≡ hash_at K P e = made.is K (λ k. 0) so.sized so.deep ∙ ap (λ (x : View). sha256 (hin K x)) (sym view_opened) in
          let both = stored-opened (hash_at K P e) (Π_at K P e) (Ψ_at K P e) x opened_p inside (ap (λ (l : List ℕ). length l) (sym is) ∙ lh) (long_by x lx) place_within in
          record {
            next = record {
              rank_is = count_hit e (opened P.p2) opened_p ∙ ap (λ (x : ℕ). x + 1) here.rank_is;
              at_is = sym (at-opened K P e at (sym here.at_is) opened_p);
            };
            stored = subst (λ (l : List ℕ). Stored K.M (kept_count K) e (place P.p2 e) (opened P.p2 e) (hash_at K P e) (Π_at K P e) (Ψ_at K P e) x (put x (32 * e) 32 l)) (sym is) both.0;
            lists_are = ap (λ (l : List ℕ). put x (32 * e) 32 l) is ∙ both.1;
          }

    -- ---- kept
    module _ (t : opened p2 e ≡ false) where
      kept_p : opened P.p2 e ≡ false
      kept_p = ap (λ (x : List ℕ). opened x e) so.second ∙ t

      pub rank_most : r ≤ e
      unfolding rank
      rank_most = omega (arith, here.rank_is, count-le e (opened P.p2))

      pub place_below : e - r < M - τ
      place_below = omega (arith, place_is, place-lt K P.p2 good_e_lem e inside kept_p, so.executions, so.openings)

      place_listed : place P.p2 e < length P.p6
      place_listed = omega (arith, hidden_length K P.p6 good_hidden_lem, place-lt K P.p2 good_e_lem e inside kept_p)

      pub hidden_least : 1 ≤ get_or p6 (e - r) 0
      unfolding good_hidden
      hidden_least =
          subst (λ (x : ℕ). 1 ≤ x) (ap₂ (λ (x : List ℕ) (y : ℕ). get_or x y 0) so.sixth place_is)
          (leb-true _ _ (every-at (length P.p6) (λ j. leb 1 (get_or P.p6 j 0)) (holds-each _ good_hidden_lem).1.0 (place P.p2 e) place_listed))

      module _ {named : ℕ} (is : named ≡ get_or p6 (e - r) 0) where
        abbrev hid : ℕ
        hid = named - 1

        hides : hidden K P e ≡ hid
        unfolding hidden hidden_of
        hides = ap₂ (λ (x : List ℕ) (y : ℕ). get_or x y 0 - 1) so.sixth place_is ∙ sym (ap (λ (x : ℕ). x - 1) is)

        pub hid_below : hid < N
        unfolding hidden
        hid_below = omega (arith, hides, so.sized.parties, hidden_lt K P.p2 P.p6 good_e_lem good_hidden_lem e inside kept_p)

        size_is : reply_size K P e ≡ 16 * D + 32 + 4 * (m + 1 + last_count m N hid)
        size_is =
            size_kept K P e kept_p ∙ ap₂ (λ (x y : ℕ). 16 * x + 32 + 4 * y) so.deep (given_count_lem K P e so.sized hides)

        module _ {size : ℕ} (long : size ≡ 16 * D + 32 + 4 * (m + 1 + last_count m N hid)) where
          abbrev end : ℕ
          end = at + size

          pub end_inside : end ≤ length p7
          end_inside =
              subst (λ (x : List ℕ). end ≤ length x) so.seventh
              (omega (arith, replies_long, here.at_is, size_is, reply-within K P e K.M inside))

          reply_is : reply_at K P e ≡ take (end - at) (drop at p7)
          unfolding reply_at
          reply_is =
              let w : reply_size K P e ≡ end - at = omega (arith, size_is) in
              ap₂ (λ (x : List ℕ) (y : ℕ). part x y (reply_size K P e)) so.seventh here.at_is ∙ ap (λ (x : ℕ). take x (drop at p7)) w

          pub given_is : Given q m N D hid (take (end - at) (drop at p7))
          unfolding good_numbers
          given_is =
              given_good K P e so.deep reply_is so.sized hides
              (sym (pick_false (opened P.p2 e) true (every (given_count K P e) (λ j. ltb (given K P e j) K.q)) kept_p)
              ∙ every-at K.M (λ e. pick (opened P.p2 e) true (every (given_count K P e) (λ j. ltb (given K P e j) K.q))) good-numbers e inside)

          kept_in : {kappa seed : List ℕ} → kappa ≡ take 16 p7 → seed ≡ p4 → KeptIn q n m N D hid e (take (end - at) (drop at p7)) kappa seed entries K P
          kept_in ek es =
              record {
                sized = so.sized;
                rows = so.rows;
                entry = so.entry;
                deep = so.deep;
                hides = hides;
                at = reply_is;
                κ_is = ap (take 16) so.seventh ∙ sym ek;
                l_is = so.fourth ∙ sym es;
              }

          view_kept : view K P e ≡ kept_view K P e
          unfolding view
          view_kept = pick_false (opened P.p2 e) (opened_view K P e) (kept_view K P e) kept_p

          omega_is : take (16 * τ + 32 * (e - r) + 32 - (16 * τ + 32 * (e - r))) (drop (16 * τ + 32 * (e - r)) p3) ≡ Ω_at K P e
          unfolding Ω_at
          omega_is =
              let w : 16 * τ + 32 * (e - r) + 32 - (16 * τ + 32 * (e - r)) ≡ 32 = omega arith in
              ap (λ (x : ℕ). take x (drop (16 * τ + 32 * (e - r)) p3)) w
              ∙ (ap₂ (λ (x y : ℕ). part p3 (16 * x + 32 * y) 32) (sym so.openings) (sym place_is)
              ∙ ap (λ (x : List ℕ). part x (16 * K.τ + 32 * place P.p2 e) 32) (sym so.third))

          module _ {kappa seed h om pi psi : List ℕ} {zero good : Bool} (ek : kappa ≡ take 16 p7) (el : seed ≡ p4)
              (f : KeptIn q n m N D hid e (take (end - at) (drop at p7)) kappa seed entries K P → Evaluates K P e h om pi psi zero)
              (g : good ≡ pick (eqb (suc hid) N) true (same (take (16 * τ + 32 * (e - r) + 32 - (16 * τ + 32 * (e - r))) (drop (16 * τ + 32 * (e - r)) p3)) om)) where
            ev : Evaluates K P e h om pi psi zero
            ev = f (kept_in ek el)

            good_is : good ≡ pick (eqb (suc (hidden K P e)) K.N) true (same (Ω_at K P e) (sha256 (Ωin K (kept_view K P e))))
            good_is =
                g
                ∙ (ap₂ (λ (x y : ℕ). pick (eqb (suc x) y) true (same (take (16 * τ + 32 * (e - r) + 32 - (16 * τ + 32 * (e - r))) (drop (16 * τ + 32 * (e - r)) p3)) om)) (sym hides) (sym so.sized.parties)
                ∙ ⊎_elim
                (λ y. pick_true (eqb (suc (hidden K P e)) K.N) true _ y ∙ sym (pick_true (eqb (suc (hidden K P e)) K.N) true _ y))
                (λ y. ap₂ (λ (a b : List ℕ). pick (eqb (suc (hidden K P e)) K.N) true (same a b)) omega_is (ev.Ω_is (λ z. clash (eq-eqb _ _ z) y)))
                (decide (eqb (suc (hidden K P e)) K.N)))

            pub tests_are : first (kept_tests good zero) ≡ first (execution_checks K P e)
            unfolding execution_checks
            tests_are = ap₂ (λ (a b : Bool). first (kept_tests a b)) good_is ev.answers.zero_is

            pub kept_step : {x : List ℕ} → length h ≡ 32 → length pi ≡ 32 → length psi ≡ 32 → length x ≡ lists_size M (M - τ)
                → Stepped K P e r end x (put (put (put x (32 * e) 32 h) (32 * M + 32 * (e - r)) 32 pi) (32 * M + 32 * (M - τ) + 32 * (e - r)) 32 psi)
            unfolding rank
            kept_step {x} lh li ls lx =
                let eh : h ≡ hash_at K P e = ev.h_is ∙ ap (λ (x : View). sha256 (hin K x)) (sym view_kept) in
                let ei : pi ≡ Π_at K P e = ev.answers.Π_is ∙ ap (λ (x : View). sha256 (Πin K x (κ K P))) (sym view_kept) in
                let es : psi ≡ Ψ_at K P e = ev.answers.Ψ_is ∙ ap (λ (x : View). sha256 (Ψin K x (κ K P) P.p4)) (sym view_kept) in
                let em : M ≡ K.M = sym so.executions in
                let ec : M - τ ≡ kept_count K = omega (arith, so.executions, so.openings) in
                let ep : e - r ≡ place P.p2 e = sym place_is in
                let both = stored-kept (hash_at K P e) (Π_at K P e) (Ψ_at K P e) x kept_p inside (omega (arith, place_is, place_below, ec))
                (ap (λ (l : List ℕ). length l) (sym eh) ∙ lh) (ap (λ (l : List ℕ). length l) (sym ei) ∙ li) (ap (λ (l : List ℕ). length l) (sym es) ∙ ls) (long_by x lx) in
                let is : put (put (put x (32 * e) 32 h) (32 * M + 32 * (e - r)) 32 pi) (32 * M + 32 * (M - τ) + 32 * (e - r)) 32 psi
                ≡ put (put (put x (32 * e) 32 (hash_at K P e)) (32 * K.M + 32 * place P.p2 e) 32 (Π_at K P e)) (32 * K.M + 32 * kept_count K + 32 * place P.p2 e) 32 (Ψ_at K P e) =
                λ i. put (put (put x (32 * e) 32 (eh i)) (32 * em i + 32 * ep i) 32 (ei i)) (32 * em i + 32 * ec i + 32 * ep i) 32 (es i) in
                record {
                  next = record {
                    rank_is = count_miss e (opened P.p2) kept_p ∙ here.rank_is;
                    at_is = sym (ap (λ (x : ℕ). at + x) long ∙ at-kept K P e at (16 * D + 32 + 4 * (m + 1 + last_count m N hid)) (sym here.at_is) (sym size_is));
                  };
                  stored = subst (λ (l : List ℕ). Stored K.M (kept_count K) e (place P.p2 e) (opened P.p2 e) (hash_at K P e) (Π_at K P e) (Ψ_at K P e) x l) (sym is) both.0;
                  lists_are = is ∙ both.1;
                }
