-- Demand 3: the pair reader gives a finding exactly where two accepted transcripts fork, and the finding is true.
-- The execution exists (`works`), the comparisons are links (`Demand3Links`), and what follows them is read from the joined run (`Pairing`).
-- Assumes nothing.
use Prim.Native.Nat.{ℕ, suc, ◌+◌, ◌*◌, ◌-◌, ◌%◌, ◌≤◌, ◌<◌}
use mathlib.Core.Path.{◌≡◌, refl, sym, ap, ap₂, ◌∙◌, subst}
use mathlib.Core.Logic.{◌⊎◌, inl, inr, ⊎_elim}
use mathlib.Core.Bool.{Bool, true, false, not, false≢true}
use mathlib.Core.List.{List, [], ◌∷◌, ◌++◌}
use native.Mathlib.Nat.{mod-eq_of_lt, mod-lt}
use native.Mathlib.Omega.{arith}
use lib.Dec.{ltb, eqb}
use lib.ListN.{length, get_or, length-append, get_or-append}
use lib.Seq.{ext_get_or, get_or-append-add}
use borrow.Author.Tests.{ltb-true, ltb-false, leb-true, le-leb, eqb-true, eqb-false, eq-eqb, ne_eqb, not-true, not-false}
use Rattle.lists.specs.Tab.{tab, tab-length, tab-at}
use Rattle.lists.specs.Bytes.{num}
use Rattle.lists.specs.ByteList.{Bytes, bytes-part}
use Rattle.lists.specs.Index.{pick, count, least, same, holds}
use Rattle.lists.specs.Check.{Verdict, accepted, refused, first}
use Rattle.lists.specs.TestLaws.{decide, clash, not_of_true, not_of_false, pick_false, every_all, every-at, count-not, count-place, count_members, least-holds, least_before, least_some, least_all, same_of, same_eq, same_differ, differ_same, holds-each, each_holds, Clean, clean, clean-append, cleared, first_more}
use Rattle.numbers.specs.Mod.{Cong}
use Rattle.numbers.proofs.Mod.{cong_rest, sub-lt}
use Rattle.numbers.specs.Sum.{sum}
use Rattle.numbers.proofs.Sum.{sum_ext}
use Rattle.numbers.proofs.Inverse.{q_positive}
use Rattle.numbers.specs.Output.{u_of, v_of, Solves}
use Rattle.numbers.proofs.Output.{zero_solves}
use Rattle.protocol.specs.Key.{Key, A, t, kept_count, key_of, key_checks}
use Rattle.protocol.specs.Shares.{View, is_hidden, coefficient, s, b, d, o, Ψin}
use Rattle.protocol.specs.Prover.{opened, place, hidden_of, solves, binary}
use Rattle.protocol.specs.Transcript.{Parts, part_at, parts_of}
use Rattle.protocol.specs.Judge.{hidden, κ, kept_view, view, run_checks, judge}
use Rattle.protocol.specs.Pair.{Comparison, Reading, collision, secret, square, errors, first_different, execution, comparisons, source, joined, joined_bits, uv, wrong_square, values, same_front, finding, is_accepted, Lengths, pair_checks, read_of, pair}
use Rattle.protocol.specs.Accepts.{GoodKey, GoodParts}
use Rattle.protocol.specs.Demand3.{Forked, Equal, Solution, Works, Secret, Square, Errors, Truth, Finding, LongEnough, Demand3}
use Rattle.protocol.proofs.Facts.{accepts, judge_key, judge_run}
use Rattle.protocol.proofs.Demand3Lengths.{view_kept}
use Rattle.protocol.proofs.Demand3Links.{first_true, Both, v_sized, w_sized, v_hid, w_hid, closed', chain, all_equal}
use Rattle.protocol.proofs.Pairing.{Forks, Source, combination_zero}

-- ---- the execution

-- Lists of n entries that differ do so at a place.
place_of : (n : ℕ) (x y : List ℕ) → length x ≡ n → length y ≡ n → (x ≡ y → ⊥)
    → (j : ℕ) × (j < n) × (get_or x j 0 ≡ get_or y j 0 → ⊥)
place_of n x y long long' differ = go (decide (ltb (least n differs) n))
  where
    differs : ℕ → Bool
    differs j = not (eqb (get_or x j 0) (get_or y j 0))

    go : (ltb (least n differs) n ≡ true) ⊎ (ltb (least n differs) n ≡ false) → (j : ℕ) × (j < n) × (get_or x j 0 ≡ get_or y j 0 → ⊥)
    go (inl h) =
        let l : least n differs < n = ltb-true _ _ h in
        (least n differs, l, eqb-false _ _ (not-true _ (least-holds n differs l)))
    go (inr h) =
        absurd
        (differ
        (ext_get_or 0 x y (long ∙ sym long')
        (λ i l. eqb-true _ _ (not-false _ (least_all n differs (ltb-false _ _ h) i (omega (arith, long)))))))

kept-differs : (t z : Bool) → pick t false (not z) ≡ true → (t ≡ false) × (z ≡ false)
kept-differs true z e = absurd (false≢true e)
kept-differs false z e = (refl, not-true z e)

module _ (K : Key) (P R : Parts) (key : GoodKey K) (p : GoodParts K P) (r : GoodParts K R) (same2 : P.p2 ≡ R.p2)
    (differ : P.p6 ≡ R.p6 → ⊥) where
  abbrev test : ℕ → Bool
  test e = pick (opened P.p2 e) false (not (eqb (hidden K P e) (hidden K R e)))

  -- as many executions are kept as the hidden list has entries
  kept-enough : kept_count K ≤ count K.M (λ e. not (opened P.p2 e))
  unfolding opened
  kept-enough = omega (arith, count-not K.M (opened P.p2), count_members K.M P.p2, p.long2)

  hidden_at : (Q : Parts) (e j : ℕ) → P.p2 ≡ Q.p2 → count e (λ k. not (opened P.p2 k)) ≡ j → hidden K Q e ≡ get_or Q.p6 j 0 - 1
  unfolding hidden hidden_of place
  hidden_at Q e j q c = ap (λ (n : ℕ). get_or Q.p6 n 0 - 1) (sym (ap (λ (E : List ℕ). count e (λ k. not (opened E k))) q) ∙ c)

  found : (e : ℕ) × (e < K.M) × (test e ≡ true)
  found =
      let j = place_of (kept_count K) P.p6 R.p6 p.long6 r.long6 differ in
      let e = count-place K.M (λ k. not (opened P.p2 k)) j.0 (omega (arith, kept-enough, j.1)) in (
        e.0,
        e.1,
        pick_false (opened P.p2 e.0) false (not (eqb (hidden K P e.0) (hidden K R e.0))) (not-true _ e.2)
            ∙ not_of_false
            (ne_eqb (hidden K P e.0) (hidden K R e.0)
            (λ q. j.2
            (omega (
              arith,
              hidden_at P e.0 j.0 refl e.3,
              hidden_at R e.0 j.0 same2 e.3,
              p.hidden_least j.0 j.1,
              r.hidden_least j.0 j.1,
              q,
            )))),
      )

  pub works : Works K P R (execution K P R)
  unfolding execution
  works =
      let some : least K.M test < K.M = omega (arith, found.1, least_some K.M test found.0 found.1 found.2) in
      let here = kept-differs (opened P.p2 (least K.M test)) (eqb (hidden K P (least K.M test)) (hidden K R (least K.M test))) (least-holds K.M test some) in
      record {
        within = some;
        kept = here.0;
        differ = eqb-false _ _ here.1;
        smallest = λ j h c. eqb-true _ _ (not-false _ (sym (pick_false (opened P.p2 j) false (not (eqb (hidden K P j) (hidden K R j))) c) ∙ least_before K.M test j h));
      }

-- ---- the joined values
module _ (K : Key) (x : ℕ → ℕ) where
  pub solution_of : holds (solves K x ∷ binary K x ∷ []) ≡ true → Solution K x
  unfolding solves binary
  solution_of h =
      let l = holds-each (solves K x ∷ binary K x ∷ []) h in
      record {
        target = λ i b. eqb-true _ _ (every-at _ _ l.0 i b);
        binary = λ k b. leb-true _ _ (every-at _ _ l.1.0 k b);
      }

  pub solution_holds : Solution K x → holds (solves K x ∷ binary K x ∷ []) ≡ true
  unfolding solves binary
  solution_holds S =
      each_holds (solves K x ∷ binary K x ∷ []) (
        every_all K.n _ (λ i b. eq-eqb _ _ (S.target i b)),
        (every_all K.m _ (λ k b. le-leb _ _ (S.binary k b)), tt),
      )

-- A solution is one for every list that agrees with it.
pub solution_ext : (K : Key) (x y : ℕ → ℕ) → ((k : ℕ) → k < K.m → x k ≡ y k) → Solution K x → Solution K y
solution_ext K x y h S =
    record {
      target = λ l b. ap (λ (z : ℕ). z % K.q) (sym (sum_ext K.m (λ k c. ap (λ (z : ℕ). A K l k * z) (h k c)))) ∙ S.target l b;
      binary = λ k b. subst (λ (z : ℕ). z ≤ 1) (h k b) (S.binary k b);
    }

-- The list of u and then v.
module _ (n m : ℕ) (f g : ℕ → ℕ) where
  join-long : length (tab n f ++ tab m g) ≡ n + m
  join-long = length-append (tab n f) (tab m g) ∙ ap₂ (λ (x y : ℕ). x + y) (tab-length n f) (tab-length m g)

  join-left : (l : ℕ) → l < n → get_or (tab n f ++ tab m g) l 0 ≡ f l
  join-left l h = get_or-append (tab n f) (tab m g) 0 l (omega (arith, tab-length n f)) ∙ tab-at n f l h

  join-right : (k : ℕ) → k < m → get_or (tab n f ++ tab m g) (n + k) 0 ≡ g k
  join-right k h =
      ap (λ (z : ℕ). get_or (tab n f ++ tab m g) (z + k) 0) (sym (tab-length n f)) ∙ get_or-append-add (tab n f) (tab m g) k 0 ∙ tab-at m g k h

  join_below : (q : ℕ) → ((l : ℕ) → f l < q) → ((k : ℕ) → g k < q) → (j : ℕ) → j < n + m → get_or (tab n f ++ tab m g) j 0 < q
  join_below q h k j b = go (ltb j n) refl
    where
      go : (z : Bool) → ltb j n ≡ z → get_or (tab n f ++ tab m g) j 0 < q
      go true e = subst (λ (x : ℕ). x < q) (sym (join-left j (ltb-true j n e))) (h j)
      go false e =
          let i : n + (j - n) ≡ j = omega (arith, ltb-false j n e) in
          subst (λ (x : ℕ). x < q) (sym (join-right (j - n) (omega (arith, ltb-false j n e))) ∙ ap (λ (x : ℕ). get_or (tab n f ++ tab m g) x 0) i) (k (j - n))

  -- All entries are 0, or there is one that is not.
  join_nonzero : (((l : ℕ) → l < n → f l ≡ 0) → ((k : ℕ) → k < m → g k ≡ 0) → ⊥)
      → (j : ℕ) × (j < n + m) × (get_or (tab n f ++ tab m g) j 0 ≡ 0 → ⊥)
  join_nonzero h = go (decide (ltb (least (n + m) nonzero) (n + m)))
    where
      nonzero : ℕ → Bool
      nonzero j = not (eqb (get_or (tab n f ++ tab m g) j 0) 0)

      zero_at : n + m ≤ least (n + m) nonzero → (j : ℕ) → j < n + m → get_or (tab n f ++ tab m g) j 0 ≡ 0
      zero_at l j b = eqb-true _ _ (not-false _ (least_all (n + m) nonzero l j b))

      go : (ltb (least (n + m) nonzero) (n + m) ≡ true) ⊎ (ltb (least (n + m) nonzero) (n + m) ≡ false)
          → (j : ℕ) × (j < n + m) × (get_or (tab n f ++ tab m g) j 0 ≡ 0 → ⊥)
      go (inl e) =
          let l : least (n + m) nonzero < n + m = ltb-true _ _ e in
          (least (n + m) nonzero, l, eqb-false _ _ (not-true _ (least-holds (n + m) nonzero l)))
      go (inr e) =
          let l : n + m ≤ least (n + m) nonzero = ltb-false _ _ e in
          absurd
          (h (λ i b. sym (join-left i b) ∙ zero_at l i (omega arith)) (λ k b. sym (join-right k b) ∙ zero_at l (n + k) (omega arith)))

module _ (K : Key) (P R : Parts) (key : GoodKey K) (e : ℕ) where
  positive : 0 < K.q
  positive = q_positive key.q

  joined-lt : (f : Key → View → ℕ → ℕ → ℕ) (k : ℕ) → joined K P R e f k < K.q
  unfolding joined
  joined-lt f k = mod-lt _ positive

  t_lt : (l : ℕ) → l < K.n → t K l < K.q
  t_lt l h = key.entry_lt (K.n * K.m + l) (omega arith)

  -- u and v all zero: a solution
  zero_solution : ((l : ℕ) → l < K.n → u_of K.q K.m (A K) (t K) (joined K P R e s) l ≡ 0)
      → ((k : ℕ) → k < K.m → v_of K.q (joined K P R e s) k ≡ 0) → Solution K (joined K P R e s)
  zero_solution u v =
      let S : Solves K.q K.n K.m (A K) (t K) (joined K P R e s) = zero_solves key.q u v in
      record {
        target = λ l h. (S.target l h).same ∙ mod-eq_of_lt (t_lt l h);
        binary = λ k h. subst (λ (z : ℕ). z ≤ 1) (mod-eq_of_lt (joined-lt s k)) (S.binary k h);
      }

-- A number below q is compared with another's remainder.
rest_same : {q x y : ℕ} → x < q → not (eqb x (y % q)) ≡ false → Cong q x y
rest_same h e = record { same = mod-eq_of_lt h ∙ eqb-true _ _ (not-false _ e) }

rest_differs : {q x y : ℕ} → x < q → not (eqb x (y % q)) ≡ true → Cong q x y → ⊥
rest_differs h e c = eqb-false _ _ (not-true _ e) (cong_rest h c)

-- ---- the finding

module _ (K : Key) (P R : Parts) (a : Both K P R) (e : ℕ) (at : Works K P R e)
    (q : Equal (comparisons K P R e)) where
  -- the two views, where all comparisons are equal
  forks : Forks K P.p4 (view K P e) (view K R e)
  unfolding kept_view
  forks =
      let within = at.within in
      let kept = at.kept in
      let kept' = closed' K P R a e within kept in
      let z = all_equal K P R a e within kept q in
      record {
        execution =
            ap (λ (v : View). v.ex) (view_kept K P a.p.parts e within kept)
            ∙ sym (ap (λ (v : View). v.ex) (view_kept K R a.r.parts e within kept'));
        v_sized = v_sized K P R a e within kept;
        w_sized = w_sized K P R a e within kept;
        zero_sum =
            ap (λ (v : View). sum K.N (o K v P.p4) % K.q) (view_kept K P a.p.parts e within kept)
            ∙ a.p.values.zero_sum e within kept;
        κ₁ = κ K P;
        κ₂ = κ K R;
        same_Π = z.1.0;
        same_Ψ = subst (λ (L : List ℕ). Ψin K (view K P e) (κ K P) P.p4 ≡ Ψin K (view K R e) (κ K R) L) (sym a.front.same4) z.1.1.1.0;
      }

  -- Each party's values come from a view in which it is open: the second hides another party than the first.
  shows : (i : ℕ) → i < K.N → Source K (view K P e) (view K R e) i (source K P R e i)
  unfolding source
  shows i h =
      ⊎_elim
      (λ z. rw z (record { one = inr (refl, ne_eqb i (view K R e).hid (λ q. hid_differ (sym (eqb-true i (view K P e).hid z) ∙ q))) }))
      (λ z. rw z (record { one = inl (refl, z) }))
      (decide (is_hidden K (view K P e) i))
    where
      hid_differ : (view K P e).hid ≡ (view K R e).hid → ⊥
      hid_differ q = at.differ (sym (v_hid K P R a e at.within at.kept) ∙ q ∙ w_hid K P R a e at.within at.kept)

  ex_is : (view K P e).ex ≡ e
  unfolding kept_view
  ex_is = ap (λ (v : View). v.ex) (view_kept K P a.p.parts e at.within at.kept)

  abbrev u : ℕ → ℕ
  u l = u_of K.q K.m (A K) (t K) (joined K P R e s) l

  abbrev v : ℕ → ℕ
  v k = v_of K.q (joined K P R e s) k

  -- the sum over the parties
  errors_zero : ((k : ℕ) → k < K.m → Cong K.q (joined K P R e d k) (joined K P R e b k * joined K P R e b k))
      → (sum K.n (λ l. coefficient K P.p4 e l * u l) + sum K.m (λ k. coefficient K P.p4 e (K.n + k) * v k)) % K.q ≡ 0
  unfolding joined
  errors_zero h =
      subst
      (λ (x : ℕ). (sum K.n (λ l. coefficient K P.p4 x l * u l) + sum K.m (λ k. coefficient K P.p4 x (K.n + k) * v k)) % K.q ≡ 0)
      ex_is (combination_zero K a.key P.p4 (view K P e) (view K R e) forks (source K P R e) shows h)

  secret_true : holds (solves K (joined K P R e s) ∷ binary K (joined K P R e s) ∷ []) ≡ true → Secret K P R e (joined_bits K P R e)
  secret_true h =
      let read : (k : ℕ) → k < K.m → get_or (joined_bits K P R e) k 0 ≡ joined K P R e s k = λ k b. tab-at K.m _ k b in
      record {
        works = at;
        no_collision = q;
        long = tab-length K.m _;
        read = read;
        solution =
            solution_ext K (joined K P R e s) (λ k. get_or (joined_bits K P R e) k 0) (λ k b. sym (read k b)) (solution_of K (joined K P R e s) h);
      }

  module _ (none : holds (solves K (joined K P R e s) ∷ binary K (joined K P R e s) ∷ []) ≡ false) where
    no_secret : Solution K (joined K P R e s) → ⊥
    no_secret S = clash (solution_holds K (joined K P R e s) S) none

    square_true : wrong_square K P R e < K.m
        → Square K P R e (wrong_square K P R e) (joined K P R e b (wrong_square K P R e)) (joined K P R e d (wrong_square K P R e))
    unfolding wrong_square
    square_true h =
        record {
          works = at;
          no_collision = q;
          no_secret = no_secret;
          column = h;
          b_read = refl;
          d_read = refl;
          b_fits = joined-lt K P R a.key e b (wrong_square K P R e);
          d_fits = joined-lt K P R a.key e d (wrong_square K P R e);
          wrong = rest_differs (joined-lt K P R a.key e d (wrong_square K P R e)) (least-holds K.m _ h);
          smallest = λ j l. rest_same (joined-lt K P R a.key e d j) (least_before K.m _ j l);
        }

    errors_true : K.m ≤ wrong_square K P R e → Errors K P R e (uv K P R e)
    unfolding uv wrong_square u_of v_of
    errors_true h =
        let right : (k : ℕ) → k < K.m → Cong K.q (joined K P R e d k) (joined K P R e b k * joined K P R e b k) = λ k l. rest_same (joined-lt K P R a.key e d k) (least_all K.m _ h k l) in
        record {
          works = at;
          no_collision = q;
          no_secret = no_secret;
          squares = right;
          long = join-long K.n K.m u v;
          fits = join_below K.n K.m u v K.q (λ l. sub-lt (positive K P R a.key e) _ _) (λ k. sub-lt (positive K P R a.key e) _ _);
          u_read = λ l b. join-left K.n K.m u v l b;
          v_read = λ k b. join-right K.n K.m u v k b;
          not_zero = join_nonzero K.n K.m u v (λ x y. no_secret (zero_solution K P R a.key e x y));
          combination =
              ap (λ (z : ℕ). z % K.q)
              (ap₂ (λ (x y : ℕ). x + y)
              (sum_ext K.n (λ l b. ap (λ (z : ℕ). coefficient K P.p4 e l * z) (join-left K.n K.m u v l b)))
              (sum_ext K.m (λ k b. ap (λ (z : ℕ). coefficient K P.p4 e (K.n + k) * z) (join-right K.n K.m u v k b))))
              ∙ errors_zero right;
        }

-- Whatever the reader comes to first is true.
module _ (K : Key) (P R : Parts) (a : Both K P R) (at : Works K P R (execution K P R)) where
  values_true : Equal (comparisons K P R (execution K P R)) → Truth K P R (values K P R (execution K P R))
  unfolding values
  values_true q =
      go (holds (solves K (joined K P R (execution K P R) s) ∷ binary K (joined K P R (execution K P R) s) ∷ [])) refl
      (ltb (wrong_square K P R (execution K P R)) K.m) refl
    where
      go : (t : Bool) → holds (solves K (joined K P R (execution K P R) s) ∷ binary K (joined K P R (execution K P R) s) ∷ []) ≡ t
          → (z : Bool) → ltb (wrong_square K P R (execution K P R)) K.m ≡ z
          → Truth K P R
          (pick t (secret (joined_bits K P R (execution K P R)))
          (pick z
          (square (suc (execution K P R)) (suc (wrong_square K P R (execution K P R)))
          (joined K P R (execution K P R) b (wrong_square K P R (execution K P R)))
          (joined K P R (execution K P R) d (wrong_square K P R (execution K P R))))
          (errors (suc (execution K P R)) (uv K P R (execution K P R)))))
      go true h z k = secret_true K P R a (execution K P R) at q h
      go false h true k = square_true K P R a (execution K P R) at q h (ltb-true _ _ k)
      go false h false k = errors_true K P R a (execution K P R) at q h (ltb-false _ _ k)

  finding_true : Truth K P R (finding K P R)
  unfolding finding
  finding_true =
      first_true (Truth K P R) (suc (execution K P R)) (comparisons K P R (execution K P R)) (values K P R (execution K P R))
      (λ c n k f.
      record {
        works = at;
        first = f;
        bytes_one = k.bytes_one;
        bytes_two = k.bytes_two;
        differ = n;
        one_hash = k.one_hash;
        one-length = k.one-length;
        short = k.short;
      })
      (chain K P R a (execution K P R) at.within at.kept) values_true

-- ---- the verdict

-- What the reader comes to is a finding and no refusal.
different_finding : (e : ℕ) (l : List Comparison) (r : Reading) → Finding r → Finding (first_different e l r)
unfolding first_different
different_finding e [] r h = h
different_finding e (c ∷ l) r h = go (same c.one c.two) (different_finding e l r h)
  where
    go : (t : Bool) → Finding (first_different e l r)
        → Finding (pick t (first_different e l r) (collision c.kind e c.party c.one c.two))
    go true z = z
    go false z = tt

values_finding : (K : Key) (P R : Parts) (e : ℕ) → Finding (values K P R e)
unfolding values
values_finding K P R e =
    go (holds (solves K (joined K P R e s) ∷ binary K (joined K P R e s) ∷ [])) (ltb (wrong_square K P R e) K.m)
  where
    go : (t z : Bool) → Finding
        (pick t (secret (joined_bits K P R e))
        (pick z (square (suc e) (suc (wrong_square K P R e)) (joined K P R e b (wrong_square K P R e)) (joined K P R e d (wrong_square K P R e)))
        (errors (suc e) (uv K P R e))))
    go true z = tt
    go false true = tt
    go false false = tt

is_finding : (K : Key) (P R : Parts) → Finding (finding K P R)
unfolding finding
is_finding K P R =
    different_finding (suc (execution K P R)) (comparisons K P R (execution K P R)) (values K P R (execution K P R)) (values_finding K P R (execution K P R))

pub is_accepted_lem : (v : Verdict) → is_accepted v ≡ true → v ≡ accepted
unfolding is_accepted
is_accepted_lem accepted e = refl
is_accepted_lem (refused n) e = absurd (false≢true e)

accepted_is : (v : Verdict) → v ≡ accepted → is_accepted v ≡ true
unfolding is_accepted
accepted_is v e = ap is_accepted e

-- Part 7 of a transcript of bytes.
last-bytes : (x : List ℕ) → Bytes x → Bytes (parts_of x).p7
unfolding parts_of part_at
last-bytes x b = bytes-part x (num x 12) (num x 13) b

module _ (key x y : List ℕ) where
  forked_true : Bytes x → Bytes y → Forked key x y → Truth (key_of key) (parts_of x) (parts_of y) (finding (key_of key) (parts_of x) (parts_of y))
  forked_true bx by f =
      let a = accepts key x f.first in
      let c = accepts key y f.second in
      finding_true (key_of key) (parts_of x) (parts_of y)
      (record {
        key = a.good_key;
        p = record { parts = a.good_parts; values = a.good_values; bytes = last-bytes x bx };
        r = record { parts = c.good_parts; values = c.good_values; bytes = last-bytes y by };
        front = record { same1 = f.same1; same2 = f.same2; same3 = f.same3; same4 = f.same4; same5 = f.same5 };
      })
      (works (key_of key) (parts_of x) (parts_of y) a.good_key a.good_parts c.good_parts f.same2 f.differ6)

  module _ (l : Lengths) where
    -- 20 to 23 do not apply: the transcripts fork.
    forked_of : Clean (pair_checks key l x y) → Forked key x y
    unfolding pair_checks key_checks judge same_front
    forked_of c =
        let k = cleared (key_checks (key_of key) key) (c.0, (c.1.0, (c.1.1.0, (c.1.1.1.0, (c.1.1.1.1.0, tt))))) in
        let own = c.1.1.1.1.1 in
        let f = holds-each _ (not-false _ own.1.1.1.0) in
        record {
          first = first_more (key_checks (key_of key) key) (run_checks (key_of key) x) k ∙ is_accepted_lem _ (not-false _ own.1.0);
          second = first_more (key_checks (key_of key) key) (run_checks (key_of key) y) k ∙ is_accepted_lem _ (not-false _ own.1.1.0);
          same1 = same_eq _ _ f.0;
          same2 = same_eq _ _ f.1.0;
          same3 = same_eq _ _ f.1.1.0;
          same4 = same_eq _ _ f.1.1.1.0;
          same5 = same_eq _ _ f.1.1.1.1.0;
          differ6 = same_differ _ _ own.1.1.1.1.0;
        }

    same-front : Forked key x y → same_front (key_of key) (parts_of x) (parts_of y) ≡ true
    unfolding same_front
    same-front f =
        each_holds _ (same_of f.same1, (same_of f.same2, (same_of f.same3, (same_of f.same4, (same_of f.same5, tt)))))

    -- The transcripts fork, and the lent lists are long enough: no number applies.
    forked_accepted : LongEnough key l → Forked key x y → first (pair_checks key l x y) ≡ accepted
    unfolding pair_checks
    forked_accepted h f =
        let read : Clean (key_checks (key_of key) key) = judge_key key x f.first in
        cleared (pair_checks key l x y)
        (clean-append (key_checks (key_of key) key) _ read (
          not_of_true (h (cleared (key_checks (key_of key) key) read)),
          (
            not_of_true (accepted_is _ (judge_run key x f.first)),
            (
              not_of_true (accepted_is _ (judge_run key y f.second)),
              (not_of_true (same-front f), (differ_same _ _ f.differ6, tt)),
            ),
          ),
        ))

    finding_forked : Finding (pair key l x y) → Forked key x y
    unfolding pair read_of
    finding_forked h = go (first (pair_checks key l x y)) refl h
      where
        go : (v : Verdict) → first (pair_checks key l x y) ≡ v → Finding (read_of v (finding (key_of key) (parts_of x) (parts_of y))) → Forked key x y
        go accepted e z = forked_of (clean _ e)
        go (refused n) e z = absurd z

    pub forked-pair : LongEnough key l → Forked key x y → pair key l x y ≡ finding (key_of key) (parts_of x) (parts_of y)
    unfolding pair read_of
    forked-pair h f = ap (λ (v : Verdict). read_of v (finding (key_of key) (parts_of x) (parts_of y))) (forked_accepted h f)

    -- A finding is what the reader comes to.
    found-pair : Finding (pair key l x y) → pair key l x y ≡ finding (key_of key) (parts_of x) (parts_of y)
    unfolding pair read_of
    found-pair h = go (first (pair_checks key l x y)) h
      where
        go : (v : Verdict) → Finding (read_of v (finding (key_of key) (parts_of x) (parts_of y)))
            → read_of v (finding (key_of key) (parts_of x) (parts_of y)) ≡ finding (key_of key) (parts_of x) (parts_of y)
        go accepted z = refl
        go (refused n) z = absurd z

    pub demand_3 : Demand3 key l x y
    demand_3 =
        record {
          only = finding_forked;
          always = λ h f. subst Finding (sym (forked-pair h f)) (is_finding (key_of key) (parts_of x) (parts_of y));
          sound = λ bx by z.
              subst (Truth (key_of key) (parts_of x) (parts_of y)) (sym (found-pair z)) (forked_true bx by (finding_forked z));
        }
