-- The verdict on a key, by the test that decides it, and steps of the other proofs. Assumes nothing.
use Prim.Native.Nat.{ℕ, suc, ◌+◌, ◌*◌, ◌-◌, ◌/◌, ◌≤◌, ◌<◌}
use Rattle.std.specs.Prelude.{◌^◌}
use mathlib.Core.Path.{◌≡◌, refl, sym, ap, ◌∙◌, subst}
use mathlib.Core.Bool.{Bool, true, false}
use mathlib.Core.Logic.{⊎_elim}
use mathlib.Core.List.{List, ◌++◌}
use native.Mathlib.Omega.{arith}
use lib.Dec.{ltb, leb}
use lib.ListN.{length, take, drop}
use borrow.Author.Tests.{lt-ltb, le-ltb, eq-eqb, ne_eqb}
use Rattle.std.proofs.Common.{take-append-drop, take_all, length-take-le, length-drop, ltb-true, ltb-false}
use Rattle.std.proofs.Math.Pow.{pow_mono}
use Rattle.std.proofs.Math.Nat.{pow-suc}
use Rattle.std.proofs.lemmas.Nat.{pow_pos}
use Rattle.lists.specs.Index.{every, count, member, holds}
use Rattle.lists.specs.Check.{accepted, refused, first}
use Rattle.lists.specs.Tab.{tab, tab_ext}
use Rattle.lists.specs.Bytes.{num}
use Rattle.lists.specs.TestLaws.{decide, every_ext}
use Rattle.lists.specs.CatLaws.{num-left, num-right}
use Rattle.numbers.specs.Inverse.{Member, qs, Ns}
use Rattle.numbers.proofs.Inverse.{parties_cases}
use Rattle.protocol.specs.Key.{Key, entries, key_of, limits, key_checks}
use Rattle.key.specs.declared.sizes.Numbers.{Numbers}
use Rattle.key.specs.Limits.{Limits, Depth}
use Rattle.key.specs.Numbers.{Of, begun}
use Rattle.key.specs.KeyLaws.{limits_held, entries_of, depth_of}

-- The first six numbers, and those after them.
pub front_is : (x : List ℕ) → 24 ≤ length x → tab 6 (num (take 24 x)) ≡ tab 6 (num x)
front_is x h =
    tab_ext 6 (num (take 24 x)) (num x)
    (λ j below. sym (num-left (take 24 x) (drop 24 x) j (omega (arith, length-take-le 24 x h))) ∙ ap (λ (l : List ℕ). num l j) (take-append-drop 24 x))

num_after : (x : List ℕ) (j : ℕ) → 24 ≤ length x → num (drop 24 x) j ≡ num x (6 + j)
num_after x j h = sym (num-right (take 24 x) (drop 24 x) 6 j (length-take-le 24 x h)) ∙ ap (λ (l : List ℕ). num l (6 + j)) (take-append-drop 24 x)

-- What is lent of a key from byte 24 on.
abbrev pub rest : List ℕ → List ℕ
rest x = take (length x - 24) (drop 24 x)

rest_is : (x : List ℕ) → rest x ≡ drop 24 x
rest_is x = take_all (length x - 24) (drop 24 x) (omega (arith, length-drop 24 x))

-- Six numbers that are those of a key.
module _ (x l : List ℕ) (e : l ≡ tab 6 (num x)) where
  pub of_begun : {k : Numbers} → Of k (begun l) → Of k (key_of x)
  unfolding key_of tab
  of_begun {k} of =
      let at : Of k (begun (tab 6 (num x))) = subst (λ (y : List ℕ). Of k (begun y)) e of in
      record { q_is = at.q_is; n_is = at.n_is; m_is = at.m_is; parties_is = at.parties_is; executions_is = at.executions_is; τ_is = at.τ_is }

  pub limits_begun : Limits (key_of x).q (key_of x).n (key_of x).m (key_of x).N (key_of x).M (key_of x).τ → Limits (begun l).q (begun l).n (begun l).m (begun l).N (begun l).M (begun l).τ
  unfolding key_of tab
  limits_begun h = rw e h

  q_begun : (begun l).q ≡ (key_of x).q
  unfolding key_of tab
  q_begun = rw e refl

  holds_begun : holds (limits (begun l)) ≡ holds (limits (key_of x))
  unfolding key_of tab limits
  holds_begun = rw e refl

-- The entries after the six numbers.
pub entries_read : (x l : List ℕ) (n : ℕ) → 24 ≤ length x → n ≤ length l → n ≡ entries (key_of x)
    → tab (length (take n l)) (num (rest x)) ++ drop n l ≡ tab (entries (key_of x)) (key_of x).entry ++ drop (entries (key_of x)) l
unfolding key_of
entries_read x l n long room e =
    ap (λ (r : List ℕ). tab (length (take n l)) (num r) ++ drop n l) (rest_is x)
    ∙ ap (λ (j : ℕ). tab j (num (drop 24 x)) ++ drop n l) (length-take-le n l room)
    ∙ ap (λ (r : List ℕ). r ++ drop n l) (tab_ext n (num (drop 24 x)) (λ j. num x (6 + j)) (λ j h. num_after x j long))
    ∙ ap (λ (j : ℕ). tab j (λ i. num x (6 + i)) ++ drop j l) e

below_read : (x : List ℕ) (n q : ℕ) → length x ≡ 24 + 4 * n
    → every (length (rest x) / 4) (λ j. ltb (num (rest x) j) q) ≡ every n (λ j. ltb (num x (6 + j)) q)
below_read x n q e =
    let many : length (drop 24 x) / 4 ≡ n = omega (arith, length-drop 24 x) in
    ap (λ (r : List ℕ). every (length r / 4) (λ j. ltb (num r j) q)) (rest_is x)
    ∙ ap (λ (k : ℕ). every k (λ j. ltb (num (drop 24 x) j) q)) many
    ∙ every_ext n _ _ (λ j h. ap (λ (y : ℕ). ltb y q) (num_after x j (omega arith)))

-- log2 of a number of parties.
log_is : (r d : ℕ) → 2 ^ r ≤ 2 ^ d → 2 ^ d < 2 * 2 ^ r → r ≡ d
log_is r d h l = ⊎_elim small (λ e. ⊎_elim large (λ k. let a : d ≤ r = ltb-false r d e in let b : r ≤ d = ltb-false d r k in omega arith) (decide (ltb d r))) (decide (ltb r d))
  where
    small : ltb r d ≡ true → r ≡ d
    small e = let up : 2 ^ suc r ≤ 2 ^ d = pow_mono (ltb-true r d e) in absurd (omega (arith, pow-suc 2 r))

    large : ltb d r ≡ true → r ≡ d
    large e = let up : 2 ^ suc d ≤ 2 ^ r = pow_mono (ltb-true d r e) in absurd (omega (arith, pow-suc 2 d, pow_pos d))

depth_by : (p r d : ℕ) → p ≡ 2 ^ d → d ≤ 5 → d ≡ count 5 (λ j. leb (2 ^ suc j) (2 ^ d)) → 2 ^ r ≤ p → p < 2 * 2 ^ r → Depth p r
depth_by p r d e most is h l =
    let same : r ≡ d = log_is r d (omega (arith, e)) (omega (arith, e)) in
    record { most = omega (arith, same); power = rw (same, e); is = depth_of r p (rw (same, e) is) }

pub depth_is : (p r : ℕ) → Member p Ns → 2 ^ r ≤ p → p < 2 * 2 ^ r → Depth p r
unfolding count
depth_is p r listed h l =
    ⊎_elim (λ e. depth_by p r 1 e (omega arith) refl h l)
    (⊎_elim (λ e. depth_by p r 2 e (omega arith) refl h l)
    (⊎_elim (λ e. depth_by p r 3 e (omega arith) refl h l)
    (⊎_elim (λ e. depth_by p r 4 e (omega arith) refl h l) (λ e. depth_by p r 5 e (omega arith) refl h l))))
    (parties_cases listed)

-- What the tests made say of the key.
module _ (K : Key) (x : List ℕ) where
  pub verdict_1 : length x < 24 → refused 1 ≡ first (key_checks K x)
  unfolding key_checks first
  verdict_1 h = rw (lt-ltb (length x) 24 h)

  module _ (long : 24 ≤ length x) where
    by_q : member K.q qs ≡ false → refused 2 ≡ first (key_checks K x)
    unfolding key_checks first
    by_q e = rw (le-ltb (length x) 24 long, e)

    module _ (listed : member K.q qs ≡ true) where
      by_limits : holds (limits K) ≡ false → refused 3 ≡ first (key_checks K x)
      unfolding key_checks first
      by_limits e = rw (le-ltb (length x) 24 long, listed, e)

      module _ (within : holds (limits K) ≡ true) where
        by_length : (length x ≡ 24 + 4 * entries K → ⊥) → refused 4 ≡ first (key_checks K x)
        unfolding key_checks first
        by_length h = rw (le-ltb (length x) 24 long, listed, within, ne_eqb (length x) (24 + 4 * entries K) h)

        module _ (size : length x ≡ 24 + 4 * entries K) where
          by_entry : every (entries K) (λ j. ltb (K.entry j) K.q) ≡ false → refused 5 ≡ first (key_checks K x)
          unfolding key_checks first
          by_entry e = rw (le-ltb (length x) 24 long, listed, within, eq-eqb (length x) (24 + 4 * entries K) size, e)

          by_none : every (entries K) (λ j. ltb (K.entry j) K.q) ≡ true → accepted ≡ first (key_checks K x)
          unfolding key_checks first
          by_none e = rw (le-ltb (length x) 24 long, listed, within, eq-eqb (length x) (24 + 4 * entries K) size, e)

-- The same by what `read` computes: l are the first six numbers, a, b and d its tests' results, k the numbers carried on, n the count of
-- entries.
module _ (x l : List ℕ) {a : Bool} (long : 24 ≤ length x) (e : l ≡ tab 6 (num x)) (a_is : a ≡ member (begun l).q qs) where
  listed : {t : Bool} → a ≡ t → member (key_of x).q qs ≡ t
  listed h = ap (λ (q : ℕ). member q qs) (sym (q_begun x l e)) ∙ sym a_is ∙ h

  pub verdict_2 : a ≡ false → refused 2 ≡ first (key_checks (key_of x) x)
  verdict_2 h = by_q (key_of x) x long (listed h)

  module _ {b : Bool} (h : a ≡ true) (b_is : b ≡ holds (limits (begun l))) where
    within : {t : Bool} → b ≡ t → holds (limits (key_of x)) ≡ t
    within k = sym (holds_begun x l e) ∙ sym b_is ∙ k

    pub verdict_3 : b ≡ false → refused 3 ≡ first (key_checks (key_of x) x)
    verdict_3 k = by_limits (key_of x) x long (listed h) (within k)

    module _ (k : b ≡ true) where
      pub limits_read : Limits (begun l).q (begun l).n (begun l).m (begun l).N (begun l).M (begun l).τ
      limits_read = limits_begun x l e (limits_held (key_of x) (listed h) (within k))

      module _ (K : Numbers) {n : ℕ} (of : Of K (begun l)) (n_is : n ≡ K.n * (K.m + 1)) where
        size : n ≡ entries (key_of x)
        size = n_is ∙ entries_of K (key_of x) (of_begun x l e of)

        pub verdict_4 : (length x ≡ 24 + 4 * n → ⊥) → refused 4 ≡ first (key_checks (key_of x) x)
        verdict_4 other = by_length (key_of x) x long (listed h) (within k) (λ s. other (s ∙ ap (λ (j : ℕ). 24 + 4 * j) (sym size)))

        module _ {d : Bool} (full : length x ≡ 24 + 4 * n) (d_is : d ≡ every (length (rest x) / 4) (λ j. ltb (num (rest x) j) K.modulus.q)) where
          below : {t : Bool} → d ≡ t → every (entries (key_of x)) (λ j. ltb ((key_of x).entry j) (key_of x).q) ≡ t
          unfolding key_of
          below s = rw (← size, ← (of_begun x l e of).q_is) (sym (below_read x n K.modulus.q full) ∙ sym d_is ∙ s)

          fits : length x ≡ 24 + 4 * entries (key_of x)
          fits = full ∙ ap (λ (j : ℕ). 24 + 4 * j) size

          pub verdict_5 : d ≡ false → refused 5 ≡ first (key_checks (key_of x) x)
          verdict_5 s = by_entry (key_of x) x long (listed h) (within k) fits (below s)

          pub verdict_0 : d ≡ true → accepted ≡ first (key_checks (key_of x) x)
          verdict_0 s = by_none (key_of x) x long (listed h) (within k) fits (below s)
