-- Laws of what numbers/specs/Output.antt defines. Assumes nothing.
use Rattle.std.specs.Prelude.{ℕ, zero, suc, ◌+◌, ◌*◌, ◌%◌, ◌<◌, ◌≤◌, ◌≡◌}
use Rattle.std.proofs.Common.{sym, ◌∙◌, ap, ap₂, mod-lt, mul-zero, zero-add, arith}
use Rattle.numbers.specs.Mod.{Cong, sub}
use Rattle.numbers.proofs.Mod.{cong_refl, cong_sym, cong_trans, cong_eq, cong_by, cong_mod, cong_add, cong_mul, cong_zero, cong_same, sub_is, sub_cong, sub_zero, zero_sub, sub-lt}
use Rattle.numbers.specs.Sum.{sum}
use Rattle.numbers.proofs.Sum.{sum_ext, sum_same, sum_cong, sum-add, sum-mul, sum-mul-right, sum_swap, sum_const, sum_cong_none, sum_down, down}
use Rattle.numbers.proofs.Prime.{square_self}
use Rattle.numbers.specs.Inverse.{Member, qs, Ns, inverse_of}
use Rattle.numbers.proofs.Inverse.{inverse-mul, q_positive, q_prime}
use Rattle.numbers.specs.Output.{Run, join, alpha_of, out, u_of, v_of, combined, Solves, Squares, Alike, weight_of, base_of, term_of}

pub out-lt : {q : ℕ} → 0 < q → (r : Run) (a : ℕ → ℕ) (i : ℕ) → out q r a i < q
unfolding out
out-lt h r a i = mod-lt _ h

module _ (c : ℕ) (r : Run) (a : ℕ → ℕ) where
  open r use {N, n, m, A, t, β, γ, s, b, d}

  -- `out` with + and * alone, c standing for -1.
  unfoldable plain : ℕ → ℕ
  plain i =
      sum n (λ l. β l * (t l * inverse_of (suc c) N + c * sum m (λ k. A l k * s k i)))
      + sum m (λ k. γ k * (a k * (s k i + b k i) + d k i + c * s k i))

  out_plain : (i : ℕ) → Cong (suc c) (out (suc c) r a i) (plain i)
  unfolding out plain
  out_plain i = search down depth 20

  -- The sum over the parties, exactly.
  sum-plain :
      sum N plain
      ≡ sum n (λ l. β l * (t l * (N * inverse_of (suc c) N) + c * sum m (λ k. A l k * join N s k)))
      + sum m (λ k. γ k * (a k * (join N s k + join N b k) + join N d k + c * join N s k))
  unfolding plain join
  sum-plain = simp (sum-add, sum-mul, sum_swap N n, sum_swap N m, sum_const)

-- α(k) with + and * alone.
pub alpha_plain : (c : ℕ) (r : Run) (k : ℕ) → Cong (suc c) (alpha_of (suc c) r k) (join r.N r.s k + c * join r.N r.b k)
unfolding alpha_of join
alpha_plain c r k =
    cong_trans {b = sum r.N (λ i. r.s k i + c * r.b k i)} (search down depth 20)
    (cong_eq (simp (sum-add, sum-mul)))

-- (s - b)(s + b) + d - s = (s² - s) + (d - b²).
pub square_term : (c a s b d : ℕ) → Cong (suc c) a (s + c * b)
    → Cong (suc c) (a * (s + b) + d + c * s) (sub (suc c) (s * s) s + sub (suc c) d (b * b))
square_term c a s b d h =
    cong_trans {b = (s + c * b) * (s + b) + d + c * s} (cong_add (cong_add (cong_mul h cong_refl) cong_refl) cong_refl)
    (cong_trans {b = s * s + c * s + (d + c * (b * b))} (cong_by (suc c) _ _ 0 (s * b) (omega arith))
    (cong_sym (cong_add (sub_is c (s * s) s) (sub_is c d (b * b)))))

-- The sum of all o(i), for any s, b, d: sum of β(l) u(l) + sum of γ(k) (v(k) + (d(k) - b(k)²)).
pub sum-out : {q : ℕ} (r : Run) (a : ℕ → ℕ) → Member q qs → Member r.N Ns
    → ((k : ℕ) → k < r.m → Cong q (a k) (alpha_of q r k))
    → Cong q (sum r.N (out q r a))
    (sum r.n (λ l. r.β l * u_of q r.m r.A r.t (join r.N r.s) l)
    + sum r.m (λ k. r.γ k * (v_of q (join r.N r.s) k + sub q (join r.N r.d k) (join r.N r.b k * join r.N r.b k))))
unfolding u_of v_of
sum-out {q = zero} r a hq hN h = absurd (omega (arith, q_positive hq))
sum-out {q = suc c} r a hq hN h =
    cong_trans (sum_down r.N (out_plain c r a))
    (cong_trans (cong_eq (sum-plain c r a))
    (cong_add
    (sum_cong r.n (λ l k. cong_mul cong_refl (row l)))
    (sum_cong r.m (λ k l. cong_mul cong_refl (square_term c (a k) _ _ _ (cong_trans (h k l) (alpha_plain c r k)))))))
  where
    row : (l : ℕ) → Cong (suc c) (r.t l * (r.N * inverse_of (suc c) r.N) + c * sum r.m (λ k. r.A l k * join r.N r.s k)) (sub (suc c) (r.t l) (sum r.m (λ k. r.A l k * join r.N r.s k)))
    row l = cong_trans (cong_add (cong_trans (cong_eq (omega arith)) (inverse-mul hq hN (r.t l))) cong_refl) (cong_sym (sub_is c _ _))

-- u and v look at s modulo q.
pub u_cong : {q : ℕ} → 0 < q → (m : ℕ) (A : ℕ → ℕ → ℕ) (t : ℕ → ℕ) {s z : ℕ → ℕ} → ((k : ℕ) → k < m → Cong q (s k) (z k)) → (l : ℕ) → u_of q m A t s l ≡ u_of q m A t z l
unfolding u_of
u_cong {q} p m A t h l = cong_same (sub-lt p _ _) (sub-lt p _ _) (sub_cong p cong_refl (sum_cong m (λ k y. cong_mul cong_refl (h k y))))

pub v_cong : {q : ℕ} → 0 < q → (s z : ℕ → ℕ) (k : ℕ) → Cong q (s k) (z k) → v_of q s k ≡ v_of q z k
unfolding v_of
v_cong p s z k h = cong_same (sub-lt p _ _) (sub-lt p _ _) (sub_cong p (cong_mul h h) h)

-- A solution has u = 0 and v = 0.
pub solves_u : {q n m : ℕ} {A : ℕ → ℕ → ℕ} {t s : ℕ → ℕ} → 0 < q → Solves q n m A t s → (l : ℕ) → l < n → u_of q m A t s l ≡ 0
unfolding u_of
solves_u p S l h = sub_zero p (cong_sym (S.target l h))

pub solves_v : {q n m : ℕ} {A : ℕ → ℕ → ℕ} {t s : ℕ → ℕ} → 0 < q → Solves q n m A t s → (k : ℕ) → k < m → v_of q s k ≡ 0
unfolding v_of
solves_v {q} {s = s} p S k h = sub_zero p (go (s k % q) (cong_mod q (s k)) (S.binary k h))
  where
    go : (x : ℕ) → Cong q x (s k) → x ≤ 1 → Cong q (s k * s k) (s k)
    go zero e l = cong_trans (cong_sym (cong_mul e e)) e
    go (suc zero) e l = cong_trans (cong_sym (cong_mul e e)) e
    go (suc (suc x)) e l = absurd (omega arith)

-- Where u and v are all 0, s is a solution: q is prime.
pub zero_solves : {q n m : ℕ} {A : ℕ → ℕ → ℕ} {t s : ℕ → ℕ} → Member q qs
    → ((l : ℕ) → l < n → u_of q m A t s l ≡ 0) → ((k : ℕ) → k < m → v_of q s k ≡ 0) → Solves q n m A t s
unfolding u_of v_of
zero_solves {q} {s = s} hq u v =
    record {
      target = λ l h. cong_sym (zero_sub (q_positive hq) (cong_eq (u l h)));
      binary = λ k h. square_self (q_prime hq) (s k) (zero_sub (q_positive hq) (cong_eq (v k h)));
    }

add_none : (x y : ℕ) → y ≡ 0 → x + y ≡ x
add_none x y e = omega arith

-- With d(k) = b(k)², the sum of all o(i) is the combination of u and v.
pub sum-squares : {q : ℕ} (r : Run) (a : ℕ → ℕ) → Member q qs → Member r.N Ns
    → ((k : ℕ) → k < r.m → Cong q (a k) (alpha_of q r k)) → Squares q r
    → Cong q (sum r.N (out q r a))
    (combined r.n r.m r.β (u_of q r.m r.A r.t (join r.N r.s)) r.γ (v_of q (join r.N r.s)))
unfolding combined
sum-squares r a hq hN h S =
    cong_trans (sum-out r a hq hN h)
    (cong_add cong_refl
    (sum_cong r.m (λ k l. cong_mul cong_refl (cong_eq (add_none _ _ (sub_zero (q_positive hq) (S.square k l)))))))

-- The sum is 0: so is the combination.
pub squares : {q : ℕ} (r : Run) (a : ℕ → ℕ) → Member q qs → Member r.N Ns
    → ((k : ℕ) → k < r.m → Cong q (a k) (alpha_of q r k)) → Squares q r → sum r.N (out q r a) % q ≡ 0
    → combined r.n r.m r.β (u_of q r.m r.A r.t (join r.N r.s)) r.γ (v_of q (join r.N r.s)) % q ≡ 0
squares r a hq hN h S e = sym (sum-squares r a hq hN h S).same ∙ e

-- Honest shares of a solution: the sum of all o(i) is 0.
pub honest : {q : ℕ} (r : Run) (a : ℕ → ℕ) → Member q qs → Member r.N Ns
    → ((k : ℕ) → k < r.m → Cong q (a k) (alpha_of q r k)) → Squares q r
    → Solves q r.n r.m r.A r.t (join r.N r.s) → sum r.N (out q r a) % q ≡ 0
unfolding combined
honest r a hq hN h S Z =
    cong_zero
    (cong_trans (sum-squares r a hq hN h S)
    (cong_trans {b = 0 + 0}
    (cong_add
    (sum_cong_none r.n (λ l y. cong_eq (ap (λ x. r.β l * x) (solves_u (q_positive hq) Z l y) ∙ mul-zero (r.β l))))
    (sum_cong_none r.m (λ k y. cong_eq (ap (λ x. r.γ k * x) (solves_v (q_positive hq) Z k y) ∙ mul-zero (r.γ k)))))
    cong_refl))

pub out_ext : (q : ℕ) (r z : Run) (a e : ℕ → ℕ) (i : ℕ) → Alike r z i → ((k : ℕ) → k < r.m → a k ≡ e k) → out q r a i ≡ out q z e i
unfolding out
out_ext q r z a e i H h =
    ap₂ (λ x y. (x + y) % q)
    (sum_same H.n (λ l y. ap₂ (λ x w. x * w) (H.β l y) (ap₂ (sub q) (ap₂ (λ x w. x * inverse_of q w) (H.t l y) H.N) (sum_same H.m (λ k w. ap₂ (λ x v. x * v) (H.A l k y w) (H.s k w))))))
    (sum_same H.m (λ k y. ap₂ (λ x w. x * w) (H.γ k y) (ap₂ (sub q) (ap₂ (λ x w. x + w) (ap₂ (λ x w. x * w) (h k y) (ap₂ (λ x w. x + w) (H.s k y) (H.b k y))) (H.d k y)) (H.s k y))))

pub row_plain : (c x : ℕ) (n m : ℕ) (β t s : ℕ → ℕ) (A : ℕ → ℕ → ℕ)
    → sum n (λ l. β l * (t l * x + c * sum m (λ k. A l k * s k)))
    ≡ sum n (λ l. β l * (t l * x)) + sum m (λ k. (c * sum n (λ l. β l * A l k)) * s k)
row_plain c x n m β t s A =
    sum_ext n (λ l h. row l)
    ∙ sum-add n (λ l. β l * (t l * x)) (λ l. sum m (λ k. c * (β l * A l k) * s k))
    ∙ ap (λ y. sum n (λ l. β l * (t l * x)) + y)
    (sum_swap n m (λ l k. c * (β l * A l k) * s k) ∙ sum_ext m (λ k h. sum-mul-right n (s k) (λ l. c * (β l * A l k)) ∙ ap (λ y. y * s k) (sum-mul n c (λ l. β l * A l k))))
  where
    row : (l : ℕ) → β l * (t l * x + c * sum m (λ k. A l k * s k)) ≡ β l * (t l * x) + sum m (λ k. c * (β l * A l k) * s k)
    row l =
        let e : sum m (λ k. c * (β l * A l k) * s k) ≡ (β l * c) * sum m (λ k. A l k * s k)
        = sum_ext m (λ k h. omega arith) ∙ sum-mul m (β l * c) (λ k. A l k * s k) in
        omega arith

module _ (c : ℕ) (r : Run) (a : ℕ → ℕ) (i T : ℕ) (w : ℕ → ℕ) where
  open r use {N, n, m, A, t, β, γ, s, b, d}

  once : Cong (suc c) T (sum n (λ l. β l * (t l * inverse_of (suc c) N)) % suc c)
      → ((k : ℕ) → k < m → Cong (suc c) (w k) (sub (suc c) 0 (sum n (λ l. β l * A l k))))
      → (z : ℕ → ℕ)
      → Cong (suc c)
      (sum n (λ l. β l * sub (suc c) (t l * inverse_of (suc c) N) (sum m (λ k. A l k * s k i))) + sum m z)
      (T + sum m (λ k. w k * s k i + z k))
  once hT hw z =
      cong_trans {b = base + sum m (λ k. c * column k * s k i) + sum m z}
      (cong_add
      (cong_trans {b = sum n (λ l. β l * (t l * inverse_of (suc c) N + c * sum m (λ k. A l k * s k i)))} (search down depth 20)
      (cong_eq (row_plain c (inverse_of (suc c) N) n m β t (λ k. s k i) A)))
      cong_refl)
      (cong_trans {b = T + sum m (λ k. w k * s k i) + sum m z}
      (cong_add (cong_add (cong_sym (cong_trans hT (cong_mod _ _))) (sum_cong m (λ k h. cong_mul (weight k h) cong_refl))) cong_refl)
      (cong_eq (let e : sum m (λ k. w k * s k i + z k) ≡ sum m (λ k. w k * s k i) + sum m z = sum-add m _ z in omega arith)))
    where
      base : ℕ
      base = sum n (λ l. β l * (t l * inverse_of (suc c) N))

      column : ℕ → ℕ
      column k = sum n (λ l. β l * A l k)

      weight : (k : ℕ) → k < m → Cong (suc c) (c * sum n (λ l. β l * A l k)) (w k)
      weight k h = cong_sym (cong_trans (hw k h) (cong_trans (sub_is c 0 (sum n (λ l. β l * A l k))) (cong_eq (zero-add _))))

-- o(i) from a base T and weights w that are congruent to those above.
pub out_once : {q : ℕ} → 0 < q → (r : Run) (a : ℕ → ℕ) (i T : ℕ) (w : ℕ → ℕ)
    → Cong q T (base_of q r.N r.n r.β r.t) → ((k : ℕ) → k < r.m → Cong q (w k) (weight_of q r.n r.β r.A k))
    → out q r a i ≡ (T + sum r.m (λ k. term_of q (w k) (r.γ k) (a k) (r.s k i) (r.b k i) (r.d k i))) % q
unfolding out base_of weight_of term_of
out_once {q = zero} p r a i T w hT hw = elim p [ ]
out_once {q = suc c} p r a i T w hT hw = (once c r a i T w hT hw (λ k. r.γ k * sub (suc c) (a k * (r.s k i + r.b k i) + r.d k i) (r.s k i))).same
