-- Laws of what numbers/specs/Mod.antt defines. Assumes nothing.
use Rattle.std.specs.Prelude.{ℕ, suc, ◌+◌, ◌*◌, ◌-◌, ◌/◌, ◌%◌, ◌<◌, ◌≤◌, ◌≡◌, refl}
use Rattle.std.proofs.Common.{sym, ◌∙◌, ap, ap₂, zero-add, mod-lt, mod-eq_of_lt, zero-lt-suc, arith}
use Rattle.std.proofs.Math.Nat.{add-mul-mod_self_left, add-mod, mod-mod, zero-mod, div-add-mod}
use Rattle.numbers.specs.Mod.{Cong, sub}

pub cong_refl : {q a : ℕ} → Cong q a a
cong_refl = record { same = refl }

pub cong_sym : {q a b : ℕ} → Cong q a b → Cong q b a
cong_sym h = record { same = sym h.same }

pub cong_trans : {q a b c : ℕ} → Cong q a b → Cong q b c → Cong q a c
cong_trans h k = record { same = h.same ∙ k.same }

pub cong_eq : {q a b : ℕ} → a ≡ b → Cong q a b
cong_eq {q} e = record { same = ap (λ x. x % q) e }

-- Two numbers that differ by multiples of q.
pub cong_by : (q a b x y : ℕ) → a + q * x ≡ b + q * y → Cong q a b
cong_by q a b x y e = record { same = sym (add-mul-mod_self_left a q x) ∙ ap (λ z. z % q) e ∙ add-mul-mod_self_left b q y }

-- The remainder is the same number.
pub cong_mod : (q a : ℕ) → Cong q (a % q) a
cong_mod q a = record { same = mod-mod a q }

pub cong_add : {q a b c d : ℕ} → Cong q a b → Cong q c d → Cong q (a + c) (b + d)
cong_add {q} {a} {b} {c} {d} h k = record { same = add-mod a c q ∙ ap₂ (λ x y. (x + y) % q) h.same k.same ∙ sym (add-mod b d q) }

pub mul-mod : (a b q : ℕ) → (a * b) % q ≡ (a % q * (b % q)) % q
mul-mod a b q = go (a / q) (a % q) (b / q) (b % q) (div-add-mod a q) (div-add-mod b q)
  where
    go : (x r y s : ℕ) → q * x + r ≡ a → q * y + s ≡ b → (a * b) % q ≡ (r * s) % q
    go x r y s e f =
        rw (← e, ← f)
        (cong_by q ((q * x + r) * (q * y + s)) (r * s) 0 (x * (q * y) + x * s + r * y) (omega arith)).same

pub cong_mul : {q a b c d : ℕ} → Cong q a b → Cong q c d → Cong q (a * c) (b * d)
cong_mul {q} {a} {b} {c} {d} h k = record { same = mul-mod a c q ∙ ap₂ (λ x y. (x * y) % q) h.same k.same ∙ sym (mul-mod b d q) }

-- Congruent numbers below q are equal.
pub cong_same : {q a b : ℕ} → a < q → b < q → Cong q a b → a ≡ b
cong_same h k e = sym (mod-eq_of_lt h) ∙ e.same ∙ mod-eq_of_lt k

-- A remainder with the right residue.
pub cong_rest : {q r a : ℕ} → r < q → Cong q r a → r ≡ a % q
cong_rest h e = sym (mod-eq_of_lt h) ∙ e.same

pub cong_zero : {q a : ℕ} → Cong q a 0 → a % q ≡ 0
cong_zero {q} h = h.same ∙ zero-mod q

pub sub-lt : {q : ℕ} → 0 < q → (a b : ℕ) → sub q a b < q
unfolding sub
sub-lt h a b = mod-lt _ h

-- What code computes that has b < q.
pub sub_below : {q b : ℕ} → b < q → (a : ℕ) → sub q a b ≡ (a + (q - b)) % q
unfolding sub
sub_below {q} {b} h a = ap (λ x. (a + (q - x)) % q) (mod-eq_of_lt h)

-- The two cases of a < q and b < q.
pub sub-le : {q a b : ℕ} → a < q → b ≤ a → sub q a b ≡ a - b
sub-le {q} {a} {b} h k = sub_below (omega arith) a ∙ (cong_by q (a + (q - b)) (a - b) 0 1 (omega arith)).same ∙ mod-eq_of_lt (omega arith)

pub sub_gt : {q a b : ℕ} → b < q → a < b → sub q a b ≡ a + (q - b)
sub_gt {q} {a} {b} h k = sub_below h a ∙ mod-eq_of_lt (omega arith)

pub sub_is : (c a b : ℕ) → Cong (suc c) (sub (suc c) a b) (a + c * b)
unfolding sub
sub_is c a b =
    cong_trans (cong_mod _ _)
    (cong_trans (cong_by (suc c) (a + (suc c - b % suc c)) (a + c * (b % suc c)) (b % suc c) 1 (omega (arith, mod-lt b (zero-lt-suc c))))
    (cong_add cong_refl (cong_mul cong_refl (cong_mod _ _))))

-- For `search`: remove a remainder or a difference, and go on inside.
pub drop-mod : {q a b : ℕ} → Cong q a b → Cong q (a % q) b
drop-mod h = cong_trans (cong_mod _ _) h

pub drop-sub : {c a b x y : ℕ} → Cong (suc c) a x → Cong (suc c) b y → Cong (suc c) (sub (suc c) a b) (x + c * y)
drop-sub h k = cong_trans (sub_is _ _ _) (cong_add h (cong_mul cong_refl k))

pub sub_cong : {q a b x y : ℕ} → 0 < q → Cong q a x → Cong q b y → Cong q (sub q a b) (sub q x y)
sub_cong {q = Prim.Native.Nat.zero} {a = a} {b = b} {y = y} p h k = elim p [ ]
sub_cong {q = suc c} p h k = cong_trans (drop-sub h k) (cong_sym (sub_is _ _ _))

-- a - b + b = a.
pub sub-add : {q : ℕ} → 0 < q → (a b : ℕ) → Cong q (sub q a b + b) a
sub-add {q = Prim.Native.Nat.zero} p a b = elim p [ ]
sub-add {q = suc c} p a b = cong_trans (cong_add (sub_is c a b) cong_refl) (cong_by (suc c) (a + c * b + b) a 0 b (omega arith))

-- a + b - b = a.
pub add-sub : {q : ℕ} → 0 < q → (a b : ℕ) → Cong q (sub q (a + b) b) a
add-sub {q = Prim.Native.Nat.zero} p a b = elim p [ ]
add-sub {q = suc c} p a b = cong_trans (sub_is c (a + b) b) (cong_by (suc c) (a + b + c * b) a 0 b (omega arith))

pub cong_cancel : {q : ℕ} → 0 < q → {a b : ℕ} (x : ℕ) → Cong q (a + x) (b + x) → Cong q a b
cong_cancel p {a} {b} x h = cong_trans (cong_sym (add-sub p a x)) (cong_trans (sub_cong p h cong_refl) (add-sub p b x))

-- A difference is 0 exactly if its two sides are one number.
pub sub_zero : {q : ℕ} → 0 < q → {a b : ℕ} → Cong q a b → sub q a b ≡ 0
sub_zero {q = Prim.Native.Nat.zero} p {a = a} {b = b} h = elim p [ ]
sub_zero {q = suc c} p {a} {b} h =
    cong_same (sub-lt p a b) p
    (cong_trans (sub_is c a b) (cong_trans (cong_add h cong_refl) (cong_by (suc c) (b + c * b) 0 0 b (omega arith))))

pub zero_sub : {q : ℕ} → 0 < q → {a b : ℕ} → Cong q (sub q a b) 0 → Cong q a b
zero_sub p {a} {b} h = cong_trans (cong_sym (sub-add p a b)) (cong_trans (cong_add h cong_refl) (cong_eq (zero-add b)))

-- The last share is what the others leave of x.
pub sub-last : {q : ℕ} → 0 < q → (x y : ℕ) → Cong q (y + sub q x y) x
sub-last p x y = cong_trans (cong_eq (omega arith)) (sub-add p x y)

-- For `grw`: rewriting by congruences under sums and products.
pub ruleset under = (cong_trans, cong_refl, cong_add, cong_mul)
