-- A rule for all numbers below n by one computed test.
-- Assumes nothing.
use Rattle.std.specs.Prelude.{◌≡◌, Bool, true, false, ℕ, zero, suc, ◌<◌, T, eqb}
use Rattle.std.proofs.Common.{sym, subst, ⊎_elim, le_of_suc-le-suc, not-suc-le-zero, eq-or-lt_of_le, eqb→eq}

abbrev pub both : Bool → Bool → Bool
both true b = b
both false b = false

both_left : (a b : Bool) → T (both a b) → T a
both_left true b t = tt
both_left false b t = t

both_right : (a b : Bool) → T (both a b) → T b
both_right true b t = t
both_right false b t = absurd t

-- f and g agree at n - 1, .., 0.
abbrev pub agree : (ℕ → ℕ) → (ℕ → ℕ) → ℕ → Bool
agree f g zero = true
agree f g (suc n) = both (eqb (f n) (g n)) (agree f g n)

-- The test, computed once as `tt`, carried to each index.
pub same : (f g : ℕ → ℕ) (n : ℕ) → T (agree f g n) → (k : ℕ) → k < n → f k ≡ g k
same f g zero t k h = absurd (not-suc-le-zero h)
same f g (suc n) t k h =
    ⊎_elim
    (λ e. subst (λ (m : ℕ). f m ≡ g m) (sym e) (eqb→eq (f n) (g n) (both_left (eqb (f n) (g n)) (agree f g n) t)))
    (λ below. same f g n (both_right (eqb (f n) (g n)) (agree f g n) t) k below)
    (eq-or-lt_of_le (le_of_suc-le-suc h))
