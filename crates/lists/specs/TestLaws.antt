-- Laws of the tests by index (`every`, `count`, `least`, `member`, `same`, `holds`) and of the first number that applies (`first`).
-- Assumes nothing.
use Rattle.std.specs.Prelude.{ℕ, zero, suc, ◌+◌, ◌≤◌, ◌<◌, ◌≡◌, refl, ◌⊎◌, Bool, true, false, not, List, [], ◌∷◌, ◌++◌, ltb, eqb, length, get_or}
use Rattle.std.proofs.Common.{suc-le-suc, sym, ap, ap₂, ◌∙◌, subst, inl, inr, ⊎_elim, true≢false, not-suc-le-zero, le_of_suc-le-suc, eq-or-lt_of_le, zero-lt-suc, add-one, arith, ltb-true, ltb-false, eqb-true, eq-eqb, ne_eqb}
use Rattle.std.proofs.lemmas.Bool.{false≢true}
use Rattle.lists.specs.Index.{pick, cat, every, count, least, member, same, holds}
use Rattle.lists.specs.Check.{Check, ◌⇒◌, Verdict, accepted, refused, first}

-- ---- a test and its two answers

-- A test holds or fails.
pub decide : (t : Bool) → (t ≡ true) ⊎ (t ≡ false)
decide true = inl refl
decide false = inr refl

pub clash : {t : Bool} → t ≡ true → t ≡ false → ⊥
clash e f = true≢false (sym e ∙ f)

-- A test that cannot hold fails, and the other way.
pub fails : (t : Bool) → (t ≡ true → ⊥) → t ≡ false
fails true h = absurd (h refl)
fails false h = refl

pub stands : (t : Bool) → (t ≡ false → ⊥) → t ≡ true
stands true h = refl
stands false h = absurd (h refl)

pub not_of_true : {t : Bool} → t ≡ true → not t ≡ false
not_of_true e = ap not e

pub not_of_false : {t : Bool} → t ≡ false → not t ≡ true
not_of_false e = ap not e

pub pick_true : {A : Type 0} (t : Bool) (a b : A) → t ≡ true → pick t a b ≡ a
pick_true true a b e = refl
pick_true false a b e = absurd (false≢true e)

pub pick_false : {A : Type 0} (t : Bool) (a b : A) → t ≡ false → pick t a b ≡ b
pick_false true a b e = absurd (true≢false e)
pick_false false a b e = refl

-- Both sides of a conjunction `pick a b false`.
pub pick-left : (a b : Bool) → pick a b false ≡ true → a ≡ true
pick-left true b e = refl
pick-left false b e = e

pub pick-right : (a b : Bool) → pick a b false ≡ true → b ≡ true
pick-right true b e = e
pick-right false b e = absurd (false≢true e)

-- ---- every

pub every_zero : (p : ℕ → Bool) → every 0 p ≡ true
unfolding every
every_zero p = refl

pub every_suc : (n : ℕ) (p : ℕ → Bool) → every (suc n) p ≡ pick (every n p) (p n) false
unfolding every
every_suc n p = refl

pub every_all : (n : ℕ) (p : ℕ → Bool) → ((k : ℕ) → k < n → p k ≡ true) → every n p ≡ true
every_all zero p h = every_zero p
every_all (suc n) p h =
    every_suc n p ∙ pick_true (every n p) (p n) false (every_all n p (λ k l. h k (omega arith))) ∙ h n (omega arith)

pub every-at : (n : ℕ) (p : ℕ → Bool) → every n p ≡ true → (k : ℕ) → k < n → p k ≡ true
every-at zero p e k h = absurd (not-suc-le-zero h)
every-at (suc n) p e k h = go (sym (every_suc n p) ∙ e) (every-at n p)
  where
    go : pick (every n p) (p n) false ≡ true → (every n p ≡ true → (k : ℕ) → k < n → p k ≡ true) → p k ≡ true
    go e ih =
        ⊎_elim (λ z. ap p z ∙ pick-right (every n p) (p n) e) (λ l. ih (pick-left (every n p) (p n) e) k l)
        (eq-or-lt_of_le (le_of_suc-le-suc h))

-- One index more.
pub every-next : (n : ℕ) (p : ℕ → Bool) → every n p ≡ true → every (n + 1) p ≡ p n
every-next n p e = ap (λ (k : ℕ). every k p) (add-one n) ∙ every_suc n p ∙ pick_true (every n p) (p n) false e

-- One index at which it fails.
pub every_stops : (n : ℕ) (p : ℕ → Bool) (k : ℕ) → k < n → p k ≡ false → every n p ≡ false
every_stops n p k h e = fails (every n p) (λ a. clash (every-at n p a k h) e)

pub every_ext : (n : ℕ) (p r : ℕ → Bool) → ((k : ℕ) → k < n → p k ≡ r k) → every n p ≡ every n r
every_ext zero p r h = every_zero p ∙ sym (every_zero r)
every_ext (suc n) p r h =
    every_suc n p ∙ ap₂ (λ (a b : Bool). pick a b false) (every_ext n p r (λ k l. h k (omega arith))) (h n (omega arith)) ∙ sym (every_suc n r)

-- ---- count

pub count_zero : (p : ℕ → Bool) → count 0 p ≡ 0
unfolding count
count_zero p = refl

pub count_suc : (n : ℕ) (p : ℕ → Bool) → count (suc n) p ≡ count n p + pick (p n) 1 0
unfolding count
count_suc n p = refl

one_if : (t : Bool) → t ≡ true → ◌≡◌ {A = ℕ} (pick t 1 0) 1
one_if t e = pick_true {A = ℕ} t 1 0 e

none_if : (t : Bool) → t ≡ false → ◌≡◌ {A = ℕ} (pick t 1 0) 0
none_if t e = pick_false {A = ℕ} t 1 0 e

-- One index more, at which p holds or fails.
pub count_hit : (n : ℕ) (p : ℕ → Bool) → p n ≡ true → count (n + 1) p ≡ count n p + 1
count_hit n p e = ap (λ (k : ℕ). count k p) (add-one n) ∙ count_suc n p ∙ ap (λ (k : ℕ). count n p + k) (one_if (p n) e)

pub count_miss : (n : ℕ) (p : ℕ → Bool) → p n ≡ false → count (n + 1) p ≡ count n p
count_miss n p e =
    ap (λ (k : ℕ). count k p) (add-one n) ∙ (omega (arith, count_suc n p, none_if (p n) e))

pub count_ext : (n : ℕ) (p r : ℕ → Bool) → ((k : ℕ) → k < n → p k ≡ r k) → count n p ≡ count n r
count_ext zero p r h = count_zero p ∙ sym (count_zero r)
count_ext (suc n) p r h =
    count_suc n p
    ∙ ap₂ (λ (a : ℕ) (b : Bool). a + pick b 1 0) (count_ext n p r (λ k l. h k (omega arith))) (h n (omega arith))
    ∙ sym (count_suc n r)

pick-le : (t : Bool) → pick t 1 0 ≤ 1
pick-le true = omega arith
pick-le false = omega arith

pub count-le : (n : ℕ) (p : ℕ → Bool) → count n p ≤ n
count-le zero p = omega (arith, count_zero p)
count-le (suc n) p = omega (arith, count_suc n p, count-le n p, pick-le (p n))

-- Where p holds at k, fewer hold before k than before any n past k.
pub count_below : (n : ℕ) (p : ℕ → Bool) (k : ℕ) → k < n → p k ≡ true → count k p < count n p
count_below zero p k h e = absurd (not-suc-le-zero h)
count_below (suc n) p k h e =
    ⊎_elim
    (λ z. omega (arith, count_suc n p, ap (λ (j : ℕ). count j p) z, one_if (p n) (sym (ap p z) ∙ e)))
    (λ l. omega (arith, count_suc n p, count_below n p k l e))
    (eq-or-lt_of_le (le_of_suc-le-suc h))

pub count_mono : (p : ℕ → Bool) (k n : ℕ) → k ≤ n → count k p ≤ count n p
count_mono p k zero h = let e : k ≡ 0 = omega arith in omega (arith, ap (λ (j : ℕ). count j p) e)
count_mono p k (suc n) h =
    ⊎_elim (λ e. omega (arith, ap (λ (j : ℕ). count j p) e)) (λ l. omega (arith, count_suc n p, count_mono p k n (le_of_suc-le-suc l)))
    (eq-or-lt_of_le h)

-- Each index is one at which p holds or one at which it fails.
pub count-not : (n : ℕ) (p : ℕ → Bool) → count n p + count n (λ k. not (p k)) ≡ n
count-not zero p = omega (arith, count_zero p, count_zero (λ k. not (p k)))
count-not (suc n) p =
    omega (arith, count_suc n p, count_suc n (λ k. not (p k)), count-not n p, one (p n))
  where
    one : (t : Bool) → pick t 1 0 + pick (not t) 1 0 ≡ 1
    one true = refl
    one false = refl

-- The place of each index at which p holds: place j below `count n p` is the place of one.
pub count-place : (n : ℕ) (p : ℕ → Bool) (j : ℕ) → j < count n p → (k : ℕ) × (k < n) × (p k ≡ true) × (count k p ≡ j)
count-place zero p j h = absurd (omega (arith, count_zero p))
count-place (suc n) p j h = go (p n) refl (count-place n p j)
  where
    go : (t : Bool) → p n ≡ t → (j < count n p → (k : ℕ) × (k < n) × (p k ≡ true) × (count k p ≡ j))
        → (k : ℕ) × (k < suc n) × (p k ≡ true) × (count k p ≡ j)
    go false e ih =
        let r = ih (omega (arith, count_suc n p, none_if (p n) e)) in
        (r.0, (omega (arith, r.1)), r.2, r.3)
    go true e ih =
        ⊎_elim {C = (k : ℕ) × (k < suc n) × (p k ≡ true) × (count k p ≡ j)} (λ z. (n, (omega arith), e, sym z))
        (λ l. let r = ih l in (r.0, (omega (arith, r.1)), r.2, r.3))
        (eq-or-lt_of_le {n = j} {m = count n p} (omega (arith, count_suc n p, one_if (p n) e)))

-- ---- least

pub least_zero : (p : ℕ → Bool) → least 0 p ≡ 0
unfolding least
least_zero p = refl

pub least_suc : (n : ℕ) (p : ℕ → Bool) → least (suc n) p ≡ pick (ltb (least n p) n) (least n p) (pick (p n) n (suc n))
unfolding least
least_suc n p = refl

-- What `least n p` is: n, with p failing below n; or less than n, and then the first at which p holds.
pub record Least (n : ℕ) (p : ℕ → Bool) (k : ℕ) : Type 0 where
  pub within : k ≤ n
  pub holding : k < n → p k ≡ true
  pub before : (j : ℕ) → j < k → p j ≡ false

pub least_is : (n : ℕ) (p : ℕ → Bool) → Least n p (least n p)
least_is zero p =
    record {
      within = omega (arith, least_zero p);
      holding = λ h. absurd (omega (arith, least_zero p));
      before = λ j h. absurd (omega (arith, least_zero p));
    }
least_is (suc n) p = subst (Least (suc n) p) (sym (least_suc n p)) (go (least_is n p) (ltb (least n p) n) refl (p n) refl)
  where
    go : Least n p (least n p) → (t : Bool) → ltb (least n p) n ≡ t → (r : Bool) → p n ≡ r
        → Least (suc n) p (pick t (least n p) (pick r n (suc n)))
    go L true e r f =
        record {
          within = omega (arith, ltb-true (least n p) n e);
          holding = λ h. L.holding (ltb-true (least n p) n e);
          before = L.before;
        }
    go L false e true f =
        record {
          within = omega arith;
          holding = λ h. f;
          before = λ j h. L.before j (omega (arith, ltb-false (least n p) n e));
        }
    go L false e false f =
        record {
          within = omega arith;
          holding = λ h. absurd (omega arith);
          before = λ j h.
              ⊎_elim (λ z. ap p z ∙ f) (λ l. L.before j (omega (arith, ltb-false (least n p) n e)))
              (eq-or-lt_of_le (le_of_suc-le-suc h));
        }

pub least-le : (n : ℕ) (p : ℕ → Bool) → least n p ≤ n
least-le n p = (least_is n p).within

pub least-holds : (n : ℕ) (p : ℕ → Bool) → least n p < n → p (least n p) ≡ true
least-holds n p h = (least_is n p).holding h

pub least_before : (n : ℕ) (p : ℕ → Bool) (j : ℕ) → j < least n p → p j ≡ false
least_before n p j h = (least_is n p).before j h

-- p holds somewhere below n.
pub least_some : (n : ℕ) (p : ℕ → Bool) (k : ℕ) → k < n → p k ≡ true → least n p ≤ k
least_some n p k h e =
    ⊎_elim (λ l. absurd (clash e (least_before n p k (ltb-true k (least n p) l)))) (λ l. ltb-false k (least n p) l)
    (decide (ltb k (least n p)))

pub least-none : (n : ℕ) (p : ℕ → Bool) → ((k : ℕ) → k < n → p k ≡ false) → least n p ≡ n
least-none n p h =
    ⊎_elim (λ l. absurd (clash (least-holds n p (ltb-true (least n p) n l)) (h (least n p) (ltb-true (least n p) n l))))
    (λ l. omega (arith, ltb-false (least n p) n l, least-le n p))
    (decide (ltb (least n p) n))

pub least-found : (n : ℕ) (p : ℕ → Bool) (k : ℕ) → k < n → p k ≡ true → ((j : ℕ) → j < k → p j ≡ false) → least n p ≡ k
least-found n p k h e before =
    ⊎_elim
    (λ l. let w : least n p < k = ltb-true (least n p) k l in
    absurd (clash (least-holds n p (omega arith)) (before (least n p) w)))
    (λ l. omega (arith, ltb-false (least n p) k l, least_some n p k h e))
    (decide (ltb (least n p) k))

-- `least n p` is n: p fails below n.
pub least_all : (n : ℕ) (p : ℕ → Bool) → n ≤ least n p → (k : ℕ) → k < n → p k ≡ false
least_all n p h k l = least_before n p k (omega arith)

-- ---- member

pub member_here : (x : ℕ) (y : ℕ) (l : List ℕ) → x ≡ y → member x (y ∷ l) ≡ true
member_here x y l e = rw (eq-eqb x y e)

-- Each entry is a member, and each member an entry.
pub member_entry : (l : List ℕ) (j : ℕ) → j < length l → member (get_or l j 0) l ≡ true
member_entry [] j h = absurd (not-suc-le-zero h)
member_entry (y ∷ l) zero h = member_here y y l refl
member_entry (y ∷ l) (suc j) h = go (eqb (get_or l j 0) y) (member_entry l j (le_of_suc-le-suc h))
  where
    go : (t : Bool) → member (get_or l j 0) l ≡ true → pick t true (member (get_or l j 0) l) ≡ true
    go true e = refl
    go false e = e

pub member-at : (x : ℕ) (l : List ℕ) → member x l ≡ true → (j : ℕ) × (j < length l) × (get_or l j 0 ≡ x)
member-at x [] e = absurd (false≢true e)
member-at x (y ∷ l) e = go (eqb x y) refl e (member-at x l)
  where
    go : (t : Bool) → eqb x y ≡ t → pick t true (member x l) ≡ true → (member x l ≡ true → (j : ℕ) × (j < length l) × (get_or l j 0 ≡ x))
        → (j : ℕ) × (j < suc (length l)) × (get_or (y ∷ l) j 0 ≡ x)
    go true e k ih = (zero, zero-lt-suc (length l), sym (eqb-true x y e))
    go false e k ih = let r = ih k in (suc r.0, suc-le-suc r.1, r.2)

pub member_no : (x : ℕ) (l : List ℕ) → ((j : ℕ) → j < length l → get_or l j 0 ≡ x → ⊥) → member x l ≡ false
member_no x l h = fails (member x l) (λ e. let r = member-at x l e in h r.0 r.1 r.2)

-- At most as many numbers as a list has entries are members of it.
pub count_members : (n : ℕ) (l : List ℕ) → count n (λ e. member (suc e) l) ≤ length l
count_members n [] = omega (arith, none n)
  where
    none : (n : ℕ) → count n (λ e. false) ≡ 0
    none zero = count_zero (λ e. false)
    none (suc n) = count_suc n (λ e. false) ∙ (omega (arith, none n))
count_members n (y ∷ l) = omega (arith, more n, count_members n l)
  where
    -- y is the member suc e of at most one e
    here : ℕ → Bool
    here e = eqb (suc e) y

    none : (n : ℕ) → ((e : ℕ) → e < n → suc e ≡ y → ⊥) → count n here ≡ 0
    none zero h = count_zero here
    none (suc n) h =
        count_suc n here
        ∙ (omega (arith, none n (λ e k. h e (omega arith)), none_if (here n) (ne_eqb (suc n) y (h n (omega arith)))))

    once : (n : ℕ) → count n here ≤ 1
    once zero = omega (arith, count_zero here)
    once (suc n) =
        ⊎_elim
        (λ e. let z : count n here ≡ 0 = none n (λ k h w. let v : ⊥ = omega (arith, eqb-true (suc n) y e) in v) in
        omega (arith, count_suc n here, pick-le (here n)))
        (λ e. omega (arith, count_suc n here, once n, none_if (here n) e))
        (decide (here n))

    or-le : (a b : Bool) → pick (pick a true b) 1 0 ≤ pick a 1 0 + pick b 1 0
    or-le true true = omega arith
    or-le true false = omega arith
    or-le false true = omega arith
    or-le false false = omega arith

    sum-le : (n : ℕ) → count n (λ e. member (suc e) (y ∷ l)) ≤ count n here + count n (λ e. member (suc e) l)
    sum-le zero = omega (arith, count_zero (λ e. member (suc e) (y ∷ l)))
    sum-le (suc n) =
        omega (
          arith,
          count_suc n (λ e. member (suc e) (y ∷ l)),
          count_suc n here,
          count_suc n (λ e. member (suc e) l),
          sum-le n,
          or-le (here n) (member (suc n) l),
        )

    more : (n : ℕ) → count n (λ e. member (suc e) (y ∷ l)) ≤ 1 + count n (λ e. member (suc e) l)
    more n = omega (arith, once n, sum-le n)

-- ---- same

pub same_self : (x : List ℕ) → same x x ≡ true
unfolding same
same_self [] = refl
same_self (x ∷ xs) = rw (eq-eqb x x refl) (same_self xs)

pub same_of : {x y : List ℕ} → x ≡ y → same x y ≡ true
same_of {x} {y} e = subst (λ (z : List ℕ). same x z ≡ true) e (same_self x)

pub same_eq : (x y : List ℕ) → same x y ≡ true → x ≡ y
unfolding same
same_eq [] [] e = refl
same_eq [] (y ∷ ys) e = absurd (false≢true e)
same_eq (x ∷ xs) [] e = absurd (false≢true e)
same_eq (x ∷ xs) (y ∷ ys) e = go (eqb x y) refl e (same_eq xs ys)
  where
    go : (t : Bool) → eqb x y ≡ t → pick t (same xs ys) false ≡ true → (same xs ys ≡ true → xs ≡ ys)
        → ◌≡◌ {A = List ℕ} (x ∷ xs) (y ∷ ys)
    go true f k ih = ap₂ (λ (a : ℕ) (l : List ℕ). a ∷ l) (eqb-true x y f) (ih k)
    go false f k ih = absurd (false≢true k)

pub same_differ : (x y : List ℕ) → same x y ≡ false → x ≡ y → ⊥
same_differ x y e k = clash (same_of k) e

pub differ_same : (x y : List ℕ) → (x ≡ y → ⊥) → same x y ≡ false
differ_same x y h = fails (same x y) (λ e. h (same_eq x y e))

-- Lists of one length, compared entry by entry; lists of two lengths differ.
pub same-every : (x y : List ℕ) → length x ≡ length y → same x y ≡ every (length x) (λ j. eqb (get_or x j 0) (get_or y j 0))
same-every x y long =
    ⊎_elim (λ e. e ∙ sym (every_all (length x) _ (λ k h. eq-eqb _ _ (ap (λ (l : List ℕ). get_or l k 0) (same_eq x y e)))))
    (λ e. e ∙ sym (fails (every (length x) (λ j. eqb (get_or x j 0) (get_or y j 0))) (λ a. same_differ x y e (equal x y long (λ k h. eqb-true _ _ (every-at _ _ a k h))))))
    (decide (same x y))
  where
    equal : (x y : List ℕ) → length x ≡ length y → ((k : ℕ) → k < length x → get_or x k 0 ≡ get_or y k 0) → x ≡ y
    equal x y l h = lib.Seq.ext_get_or 0 x y l h

pub same_length : (x y : List ℕ) → (length x ≡ length y → ⊥) → same x y ≡ false
same_length x y h = differ_same x y (λ e. h (ap (λ (l : List ℕ). length l) e))

-- ---- holds

-- Each test of a list, as a nested product.
abbrev pub Holds : List Bool → Type 0
Holds [] = Unit {0}
Holds (b ∷ l) = (b ≡ true) × Holds l

pub holds-each : (l : List Bool) → holds l ≡ true → Holds l
unfolding holds
holds-each [] e = tt
holds-each (b ∷ l) e = (pick-left b (holds l) e, holds-each l (pick-right b (holds l) e))

pub each_holds : (l : List Bool) → Holds l → holds l ≡ true
unfolding holds
each_holds [] h = refl
each_holds (b ∷ l) h = pick_true b (holds l) false h.0 ∙ each_holds l h.1

-- A list of tests of which one fails.
pub holds-fails : (l : List Bool) (j : ℕ) → get_or l j true ≡ false → holds l ≡ false
unfolding holds
holds-fails [] j e = e
holds-fails (b ∷ l) zero e = pick_false b (holds l) false e
holds-fails (b ∷ l) (suc j) e = go b (holds-fails l j e)
  where
    go : (t : Bool) → holds l ≡ false → pick t (holds l) false ≡ false
    go true h = h
    go false h = refl

-- ---- first

-- Every test of a list fails, as a nested product.
abbrev pub Clean : List Check → Type 0
Clean [] = Unit {0}
Clean ((b ⇒ n) ∷ l) = (b ≡ false) × Clean l

-- A verdict, or another where it accepts.
unfoldable pub or_else : Verdict → Verdict → Verdict
or_else accepted v = v
or_else (refused n) v = refused n

abbrev IsAccepted : Verdict → Type 0
IsAccepted accepted = Unit {0}
IsAccepted (refused n) = ⊥

pub accepted_refused : {n : ℕ} → accepted ≡ refused n → ⊥
accepted_refused e = subst IsAccepted e tt

pub first_nil : first [] ≡ accepted
unfolding first
first_nil = refl

pub first_cons : (b : Bool) (n : ℕ) (l : List Check) → first ((b ⇒ n) ∷ l) ≡ pick b (refused n) (first l)
unfolding first
first_cons true n l = refl
first_cons false n l = refl

pub first_hit : (b : Bool) (n : ℕ) (l : List Check) → b ≡ true → first ((b ⇒ n) ∷ l) ≡ refused n
first_hit b n l e = first_cons b n l ∙ pick_true b _ _ e

pub first_miss : (b : Bool) (n : ℕ) (l : List Check) → b ≡ false → first ((b ⇒ n) ∷ l) ≡ first l
first_miss b n l e = first_cons b n l ∙ pick_false b _ _ e

pub first-append : (a b : List Check) → first (a ++ b) ≡ or_else (first a) (first b)
unfolding first or_else
first-append [] b = refl
first-append ((true ⇒ n) ∷ a) b = refl
first-append ((false ⇒ n) ∷ a) b = first-append a b

pub first_stops : (a b : List Check) {n : ℕ} → first a ≡ refused n → first (a ++ b) ≡ refused n
unfolding or_else
first_stops a b e = first-append a b ∙ ap (λ (v : Verdict). or_else v (first b)) e

pub first_more : (a b : List Check) → first a ≡ accepted → first (a ++ b) ≡ first b
unfolding or_else
first_more a b e = first-append a b ∙ ap (λ (v : Verdict). or_else v (first b)) e

-- Accepted: every test fails; and the other way.
pub clean : (l : List Check) → first l ≡ accepted → Clean l
unfolding first
clean [] e = tt
clean ((true ⇒ n) ∷ l) e = absurd (accepted_refused (sym e))
clean ((false ⇒ n) ∷ l) e = (refl, clean l e)

pub cleared : (l : List Check) → Clean l → first l ≡ accepted
cleared [] c = first_nil
cleared ((b ⇒ n) ∷ l) c = first_miss b n l c.0 ∙ cleared l c.1

pub clean-left : (a b : List Check) → Clean (a ++ b) → Clean a
clean-left [] b c = tt
clean-left ((t ⇒ n) ∷ a) b c = (c.0, clean-left a b c.1)

pub clean-right : (a b : List Check) → Clean (a ++ b) → Clean b
clean-right [] b c = c
clean-right ((t ⇒ n) ∷ a) b c = clean-right a b c.1

pub clean-append : (a b : List Check) → Clean a → Clean b → Clean (a ++ b)
clean-append [] b c d = d
clean-append ((t ⇒ n) ∷ a) b c d = (c.0, clean-append a b c.1 d)

pub clean-cat : (n : ℕ) (f : ℕ → List Check) → Clean (cat n f) → (k : ℕ) → k < n → Clean (f k)
unfolding cat
clean-cat zero f c k h = absurd (not-suc-le-zero h)
clean-cat (suc n) f c k h =
    ⊎_elim (λ e. subst (λ (j : ℕ). Clean (f j)) (sym e) (clean-right (cat n f) (f n) c))
    (λ l. clean-cat n f (clean-left (cat n f) (f n) c) k l)
    (eq-or-lt_of_le (le_of_suc-le-suc h))

pub cat-clean : (n : ℕ) (f : ℕ → List Check) → ((k : ℕ) → k < n → Clean (f k)) → Clean (cat n f)
unfolding cat
cat-clean zero f h = tt
cat-clean (suc n) f h = clean-append (cat n f) (f n) (cat-clean n f (λ k l. h k (omega arith))) (h n (omega arith))

-- A loop over `cat n f`: one list more that accepts, and the first that refuses.
pub first-cat_zero : (f : ℕ → List Check) → first (cat 0 f) ≡ accepted
unfolding cat
first-cat_zero f = first_nil

pub first-cat-next : (i : ℕ) (f : ℕ → List Check) → first (cat i f) ≡ accepted → first (f i) ≡ accepted → first (cat (i + 1) f) ≡ accepted
unfolding cat
first-cat-next i f e k = ap (λ (j : ℕ). first (cat j f)) (add-one i) ∙ first_more (cat i f) (f i) e ∙ k

pub first-cat_stops : (n i : ℕ) (f : ℕ → List Check) {k : ℕ} → i < n → first (cat i f) ≡ accepted → first (f i) ≡ refused k → first (cat n f) ≡ refused k
unfolding cat
first-cat_stops zero i f h e r = absurd (not-suc-le-zero h)
first-cat_stops (suc n) i f {k} h e r = go (first-cat_stops n i f) (eq-or-lt_of_le (le_of_suc-le-suc h))
  where
    go : (i < n → first (cat i f) ≡ accepted → first (f i) ≡ refused k → first (cat n f) ≡ refused k) → (i ≡ n) ⊎ (i < n)
        → first (cat n f ++ f n) ≡ refused k
    go ih (inl z) =
        first_more (cat n f) (f n) (subst (λ (j : ℕ). first (cat j f) ≡ accepted) z e) ∙ subst (λ (j : ℕ). first (f j) ≡ refused k) z r
    go ih (inr l) = first_stops (cat n f) (f n) (ih l e r)
