-- The standard library's digits of a number, cut to the last ones, are the definition's. Assumes nothing.
use Rattle.std.proofs.Common.{◌≡◌, ℕ, zero, suc, ◌+◌, ◌-◌, ◌*◌, ◌/◌, ◌%◌, ◌^◌, ◌<◌, ◌≤◌, Bool, true, false, List, [], ◌∷◌, ◌++◌, length, drop, refl, sym, ap, ◌∙◌, append_assoc, arith, length-append, nat_eq, lt-ltb, le-ltb, eq-eqb, ne_eqb, inl, inr, cond, take, take_all, length-drop, drop_of_length-le}
use Rattle.std.specs.Fmt.{digits, digits_onto, digit_glyph, decimal as text}
use Rattle.std.proofs.lemmas.Bool.{cases_lt}
use lib.Seq.{drop-append-le}
use Rattle.line.specs.Line.{decimal}

-- the last k digits, one after the other
abbrev D : ℕ → ℕ → List ℕ
D k n = digits_onto k 10 false n []

glyph : (n : ℕ) → digit_glyph false (n % 10) ≡ 48 + n % 10
glyph n = rw (lt-ltb (n % 10) 10 (omega arith)) refl

onto : (k n : ℕ) (acc : List ℕ) → digits_onto k 10 false n acc ≡ D k n ++ acc
onto zero n acc = refl
onto (suc k) n acc = step _ _ (nat_eq (n / 10) 0) (onto k (n / 10) (digit_glyph false (n % 10) ∷ acc)) (onto k (n / 10) (digit_glyph false (n % 10) ∷ []))
  where
    step : (g : ℕ) (y : List ℕ) {x z : List ℕ} (b : Bool) → x ≡ y ++ g ∷ acc → z ≡ y ++ g ∷ [] → cond b (g ∷ acc) x ≡ cond b (g ∷ []) z ++ acc
    step g y true e f = refl
    step g y false e f = e ∙ sym (append_assoc y (g ∷ []) acc) ∙ ap (λ (l : List ℕ). l ++ acc) (sym f)

D_one : (k n : ℕ) → n < 10 → D (suc k) n ≡ (48 + n) ∷ []
D_one k n h =
    let e : n % 10 ≡ n = omega arith in
    rw (eq-eqb (n / 10) 0 (omega arith), glyph n, e) refl

D_more : (k n : ℕ) → 10 ≤ n → D (suc k) n ≡ D k (n / 10) ++ (48 + n % 10) ∷ []
D_more k n h = rw (ne_eqb (n / 10) 0 (λ e. omega arith), glyph n) (onto k (n / 10) ((48 + n % 10) ∷ []))

small : (f k n : ℕ) → n < 10 → decimal (suc f) n ≡ drop (length (D (suc k) n) - suc f) (D (suc k) n)
unfolding decimal
small f k n h =
    let e : 1 - suc f ≡ 0 = omega arith in
    rw (D_one k n h, lt-ltb n 10 h) (rw e refl)

pub cut : (f k n : ℕ) → n < 10 ^ suc k → decimal f n ≡ drop (length (D (suc k) n) - f) (D (suc k) n)
unfolding decimal
cut zero k n h = sym (drop_of_length-le (D (suc k) n) {i = length (D (suc k) n) - 0} (omega arith))
cut (suc f) zero n h = small f 0 n h
cut (suc f) (suc j) n h = elim (cases_lt n 10) [
  | inl lt ↦ small f (suc j) n lt
  | inr ge ↦
      let x : List ℕ = D (suc j) (n / 10) in
      let p : 10 ^ suc (suc j) ≡ 10 * 10 ^ suc j = omega arith in
      let e = cut f j (n / 10) (omega arith) in
      let l : length (x ++ (48 + n % 10) ∷ []) - suc f ≡ length x - f = omega (arith, length-append x ((48 + n % 10) ∷ [])) in
      rw (le-ltb n 10 ge, D_more (suc j) n ge, l) (ap (λ (y : List ℕ). y ++ (48 + n % 10) ∷ []) e ∙ sym (drop-append-le (length x - f) x ((48 + n % 10) ∷ []) (omega arith)))
]

-- the part of the digits that is shown
pub shown : (most n : ℕ) (ds : List ℕ) (from : ℕ) → n < 2 ^ 32 → ds ≡ text n → from ≡ length ds - most → take (length ds - from) (drop from ds) ≡ decimal most n
unfolding digits
shown most n ds from h e f =
    rw (take_all (length ds - from) (drop from ds) (omega (arith, length-drop from ds)), f, e) (sym (cut most 63 n (omega arith)))
