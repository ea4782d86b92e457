-- Laws of what numbers/specs/Prime.antt defines. Assumes nothing.
use Rattle.std.specs.Prelude.{ℕ, zero, suc, ◌+◌, ◌*◌, ◌/◌, ◌%◌, ◌<◌, ◌≤◌, ◌≡◌, refl, Bool, true, false, ◌⊎◌, T}
use Rattle.std.proofs.Common.{ap, inl, inr, ⊎_elim, mod-lt, mod-eq_of_lt, mul-le-mul, eq-or-lt_of_le, arith}
use Rattle.std.proofs.Math.Nat.{div-add-mod, zero-mod, mul-mod_left}
use Rattle.std.proofs.Math.Decide.{dec_le}
use Rattle.numbers.specs.Mod.{Cong}
use Rattle.numbers.proofs.Mod.{cong_refl, cong_sym, cong_trans, cong_eq, cong_add, cong_mul, cong_mod, cong_by, cong_zero, cong_cancel}
use Rattle.numbers.specs.Prime.{Prime}

-- Euclid's lemma for a factor a below p, from p = a * (p / a) + p % a and descent to p % a. `f` bounds a.
descend : {p : ℕ} → Prime p → (f a b : ℕ) → a ≤ f → 0 < a → a < p → Cong p (a * b) 0 → Cong p b 0
descend P zero a b l z h e = absurd (omega arith)
descend {p} P (suc f) zero b l z h e = absurd (omega arith)
descend {p} P (suc f) (suc zero) b l z h e = cong_trans (cong_eq (omega arith)) e
descend {p} P (suc f) (suc (suc a)) b l z h e =
    descend P f (p % suc (suc a)) b
    (omega (arith, mod-lt p {m = suc (suc a)} (omega arith)))
    (P.undivided (suc (suc a)) (omega arith) h)
    (omega (arith, mod-lt p {m = suc (suc a)} (omega arith)))
    (go (p / suc (suc a)) (p % suc (suc a)) (div-add-mod p (suc (suc a))))
  where
    -- r * b = p * b - x * (a * b)
    go : (x r : ℕ) → suc (suc a) * x + r ≡ p → Cong p (r * b) 0
    go x r k =
        cong_cancel (omega arith) (x * (suc (suc a) * b))
        (cong_trans {b = 0}
        (cong_by p (r * b + x * (suc (suc a) * b)) 0 0 b (omega (arith, ap (λ y. y * b) k)))
        (cong_sym (cong_trans (cong_add cong_refl (cong_mul cong_refl e)) (cong_eq (omega arith)))))

-- A prime that divides a product divides a factor.
pub euclid : {p : ℕ} → Prime p → (a b : ℕ) → Cong p (a * b) 0 → Cong p a 0 ⊎ Cong p b 0
euclid {p} P a b e = go (a % p) (cong_mod p a) (mod-lt a (omega (arith, P.big)))
  where
    go : (r : ℕ) → Cong p r a → r < p → Cong p a 0 ⊎ Cong p b 0
    go zero h l = inl (cong_sym h)
    go (suc r) h l = inr (descend P (suc r) (suc r) b (omega arith) (omega arith) l (cong_trans (cong_mul h cong_refl) e))

-- Document 01, Pair reader: s(k)² - s(k) = 0 leaves only 0 and 1.
pub square_self : {p : ℕ} → Prime p → (x : ℕ) → Cong p (x * x) x → x % p ≤ 1
square_self {p} P zero e = omega (arith, zero-mod p)
square_self {p} P (suc x) e = ⊎_elim divided next (euclid P (suc x) x (cong_cancel positive (suc x) (cong_trans {b = suc x * suc x} (cong_eq (omega arith)) (cong_trans e (cong_eq (omega arith))))))
  where
    positive : 0 < p
    positive = omega (arith, P.big)

    divided : Cong p (suc x) 0 → suc x % p ≤ 1
    divided h = omega (arith, cong_zero h)

    next : Cong p x 0 → suc x % p ≤ 1
    next h = omega (arith, one.same, mod-eq_of_lt P.big)
      where
        one : Cong p (suc x) 1
        one = cong_trans {b = 1 + x} (cong_eq (omega arith)) (cong_trans (cong_add cong_refl h) (cong_eq (omega arith)))

-- No number from 2 to n + 1 divides p.
abbrev pub trial : ℕ → ℕ → Bool
trial p zero = true
trial p (suc n) = elim (p % (n + 2)) [ zero ↦ false | suc r ↦ trial p n ]

trial_sound : (p n : ℕ) → T (trial p n) → (a : ℕ) → 1 < a → a < n + 2 → 0 < p % a
trial_sound p zero t a l h = absurd (omega arith)
trial_sound p (suc n) t a l h = go (p % (n + 2)) refl (trial_sound p n) t
  where
    go : (r : ℕ) → p % (n + 2) ≡ r → (T (trial p n) → (a : ℕ) → 1 < a → a < n + 2 → 0 < p % a) → T (elim r [ zero ↦ false | suc s ↦ trial p n ]) → 0 < p % a
    go zero e ih u = absurd u
    go (suc r) e ih u = ⊎_elim (λ k. omega (arith, ap (λ x. p % x) k)) (λ k. ih u a l k) (eq-or-lt_of_le {n = a} {m = n + 2} (omega arith))

-- Trial division up to n + 1, where (n + 2)² is more than p: of two factors one is at most n + 1.
pub prime_by : (p n : ℕ) → 1 < p → p < (n + 2) * (n + 2) → T (trial p n) → Prime p
prime_by p n b s t = record { big = b; undivided = λ a l h. go a l h (p % a) refl (p / a) (div-add-mod p a) }
  where
    go : (a : ℕ) → 1 < a → a < p → (r : ℕ) → p % a ≡ r → (x : ℕ) → a * x + p % a ≡ p → 0 < p % a
    go a l h (suc r) e x d = omega arith
    go a l h zero e zero d = absurd (omega arith)
    go a l h zero e (suc zero) d = absurd (omega arith)
    go a l h zero e (suc (suc x)) d = small (dec_le (suc a) (n + 2)) (dec_le (suc (suc (suc x))) (n + 2))
      where
        small : Dec (a < n + 2) → Dec (suc (suc x) < n + 2) → 0 < p % a
        small (yes k) w = trial_sound p n t a l k
        small (no k) (yes w) =
            absurd (omega (arith, trial_sound p n t (suc (suc x)) (omega arith) w, mul-mod_left a (suc (suc x)), ap (λ y. y % suc (suc x)) whole))
          where
            whole : a * suc (suc x) ≡ p
            whole = omega arith
        small (no k) (no w) = absurd (omega (arith, mul-le-mul {n₁ = n + 2} {m₁ = n + 2} {n₂ = a} {m₂ = suc (suc x)} (omega arith) (omega arith)))

-- Document 01, Key: the three moduli.
pub prime_257 : Prime 257
prime_257 = prime_by 257 15 (omega arith) (omega arith) tt

pub prime_65537 : Prime 65537
prime_65537 = prime_by 65537 255 (omega arith) (omega arith) tt

pub prime_2147483647 : Prime 2147483647
prime_2147483647 = prime_by 2147483647 46339 (omega arith) (omega arith) tt
