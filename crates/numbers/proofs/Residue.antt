-- Laws of what numbers/specs/Residue.antt defines. Assumes nothing.
use Rattle.std.specs.Prelude.{ℕ, ◌+◌, ◌*◌, ◌-◌, ◌/◌, ◌%◌, ◌<◌, ◌≤◌, ◌≡◌}
use Rattle.std.proofs.Common.{sym, ◌∙◌, ap, ⊎_elim, mod-lt, mul-le-mul, arith, eq-eqb, ne_eqb}
use Rattle.numbers.specs.Sum.{sum}
use Rattle.numbers.proofs.Sum.{loop_first, loop_next}
use Rattle.numbers.specs.Mod.{Cong, sub}
use Rattle.numbers.proofs.Mod.{sub-le, sub_gt}
use Rattle.numbers.specs.Inverse.{Member, qs, Ns, inverse_of}
use Rattle.numbers.proofs.Inverse.{q_cases, inverse-lt}
use Rattle.numbers.specs.Residue.{Residue}

-- The remainder by a constant p, where q is p.
pub residue_at : (p x : ℕ) {q : ℕ} → 0 < p → q ≡ p → Residue q (x % q) (x % p)
residue_at p x h e = record { is = ap (λ y. x % y) (sym e); below = rw e (mod-lt x h) }

-- The modulus that is neither of the first two.
pub q_third : {q : ℕ} → Member q qs → (q ≡ 257 → ⊥) → (q ≡ 65537 → ⊥) → q ≡ 2147483647
q_third h f g = ⊎_elim (λ e. absurd (f e)) (λ k. ⊎_elim (λ e. absurd (g e)) (λ e. e) k) (q_cases h)

pub residue_sub : {q a b : ℕ} → a < q → b ≤ a → Residue q (sub q a b) (a - b)
residue_sub h k = record { is = sym (sub-le h k); below = omega arith }

pub residue_sub_wrapped : {q a b : ℕ} → b < q → a < b → Residue q (sub q a b) (a + (q - b))
residue_sub_wrapped h k = record { is = sym (sub_gt h k); below = omega arith }

pub inverse_plus : {q n : ℕ} → Member q qs → Member n Ns → q % n ≡ 1 → Residue q (inverse_of q n) (q - q / n)
unfolding inverse_of
inverse_plus {q} {n} hq hn e = go (rw (eq-eqb (q % n) 1 e, inverse_of))
  where
    go : inverse_of q n ≡ q - q / n → Residue q (inverse_of q n) (q - q / n)
    go k = record { is = sym k; below = rw k at (inverse-lt hq hn) }

pub inverse-minus : {q n : ℕ} → Member q qs → Member n Ns → (q % n ≡ 1 → ⊥) → Residue q (inverse_of q n) (q / n + 1)
unfolding inverse_of
inverse-minus {q} {n} hq hn e = go (rw (ne_eqb (q % n) 1 e, inverse_of))
  where
    go : inverse_of q n ≡ q / n + 1 → Residue q (inverse_of q n) (q / n + 1)
    go k = record { is = sym k; below = rw k at (inverse-lt hq hn) }

-- A product of two 32-bit numbers leaves room for 2^33 - 2 in 64 bits.
pub product-room : {a b : ℕ} → a < 4294967296 → b < 4294967296 → a * b ≤ 18446744065119617025
product-room {a} {b} h k = omega (arith, mul-le-mul {n₁ = a} {m₁ = b} {n₂ = 4294967295} {m₂ = 4294967295} (omega arith) (omega arith))

-- ---- loops whose turn is one of the functions: acc is sum i f % q
pub residue_first : (f : ℕ → ℕ) {q : ℕ} → 0 < q → Residue q (sum 0 f % q) 0
residue_first f {q} h = record { is = loop_first q f; below = h }

pub residue_next : (i acc y : ℕ) (f : ℕ → ℕ) {q r : ℕ} → Residue q (sum i f % q) acc → Cong q y (f i) → Residue q ((acc + y) % q) r → Residue q (sum (i + 1) f % q) r
residue_next i acc y f {q} e h k = record { is = k.is ∙ loop_next q i acc y f e.is h; below = k.below }
