-- Laws of what numbers/specs/Sum.antt defines. Assumes nothing.
use Rattle.std.specs.Prelude.{ℕ, zero, suc, ◌+◌, ◌*◌, ◌-◌, ◌%◌, ◌<◌, ◌≤◌, ◌≡◌, refl}
use Rattle.std.proofs.Common.{sym, ◌∙◌, ap, ap₂, add-zero, add-suc, mul-zero, zero-mul, add-one, arith}
use Rattle.std.proofs.Math.Nat.{zero-mod}
use Rattle.numbers.specs.Mod.{Cong, sub}
use Rattle.numbers.proofs.Mod.{cong_refl, cong_trans, cong_eq, cong_add, cong_mul, cong_mod, sub-add, drop-mod, drop-sub}
use Rattle.numbers.specs.Sum.{sum}

pub sum_zero : (f : ℕ → ℕ) → sum 0 f ≡ 0
unfolding sum
sum_zero f = refl

pub sum_suc : (n : ℕ) (f : ℕ → ℕ) → sum (suc n) f ≡ sum n f + f n
unfolding sum
sum_suc n f = refl

pub sum_more : (n : ℕ) (f : ℕ → ℕ) → sum (n + 1) f ≡ sum n f + f n
sum_more n f = rw add-one (sum_suc n f)

pub sum_ext : (n : ℕ) {f g : ℕ → ℕ} → ((i : ℕ) → i < n → f i ≡ g i) → sum n f ≡ sum n g
unfolding sum
sum_ext zero h = refl
sum_ext (suc n) h = ap₂ (λ x y. x + y) (sum_ext n (λ i k. h i (omega arith))) (h n (omega arith))

pub sum_same : {n m : ℕ} {f g : ℕ → ℕ} → n ≡ m → ((i : ℕ) → i < n → f i ≡ g i) → sum n f ≡ sum m g
sum_same {n} {m} {f} {g} e h = sum_ext n h ∙ ap (λ x. sum x g) e

pub sum_cong : {q : ℕ} (n : ℕ) {f g : ℕ → ℕ} → ((i : ℕ) → i < n → Cong q (f i) (g i)) → Cong q (sum n f) (sum n g)
unfolding sum
sum_cong zero h = cong_refl
sum_cong (suc n) h = cong_add (sum_cong n (λ i k. h i (omega arith))) (h n (omega arith))

pub sum-add : (n : ℕ) (f g : ℕ → ℕ) → sum n (λ i. f i + g i) ≡ sum n f + sum n g
unfolding sum
sum-add zero f g = refl
sum-add (suc n) f g = let e : sum n (λ i. f i + g i) ≡ sum n f + sum n g = sum-add n f g in omega arith

pub sum-mul : (n c : ℕ) (f : ℕ → ℕ) → sum n (λ i. c * f i) ≡ c * sum n f
unfolding sum
sum-mul zero c f = sym (mul-zero c)
sum-mul (suc n) c f = let e : sum n (λ i. c * f i) ≡ c * sum n f = sum-mul n c f in omega arith

pub sum-mul-right : (n c : ℕ) (f : ℕ → ℕ) → sum n (λ i. f i * c) ≡ sum n f * c
unfolding sum
sum-mul-right zero c f = sym (zero-mul c)
sum-mul-right (suc n) c f = let e : sum n (λ i. f i * c) ≡ sum n f * c = sum-mul-right n c f in omega arith

pub sum_const : (n c : ℕ) → sum n (λ i. c) ≡ n * c
unfolding sum
sum_const zero c = sym (zero-mul c)
sum_const (suc n) c = let e : sum n (λ i. c) ≡ n * c = sum_const n c in omega arith

-- The sum of a table by rows is its sum by columns.
pub sum_swap : (n m : ℕ) (f : ℕ → ℕ → ℕ) → sum n (λ i. sum m (λ j. f i j)) ≡ sum m (λ j. sum n (λ i. f i j))
unfolding sum
sum_swap zero m f = sym (sum_const m 0 ∙ mul-zero m)
sum_swap (suc n) m f = ap (λ x. x + sum m (f n)) (sum_swap n m f) ∙ sym (sum-add m (λ j. sum n (λ i. f i j)) (f n))

pub sum_split : (a b : ℕ) (f : ℕ → ℕ) → sum (a + b) f ≡ sum a f + sum b (λ i. f (a + i))
unfolding sum
sum_split a zero f = rw (add-zero a) (omega arith)
sum_split a (suc b) f =
    let e : sum (a + b) f ≡ sum a f + sum b (λ i. f (a + i)) = sum_split a b f in
    rw add-suc (omega arith)

pub sum_first : (n : ℕ) (f : ℕ → ℕ) → sum (suc n) f ≡ f 0 + sum n (λ i. f (suc i))
unfolding sum
sum_first zero f = omega arith
sum_first (suc n) f = let e : sum (suc n) f ≡ f 0 + sum n (λ i. f (suc i)) = sum_first n f in omega arith

pub sum-le : (n : ℕ) {f g : ℕ → ℕ} → ((i : ℕ) → i < n → f i ≤ g i) → sum n f ≤ sum n g
unfolding sum
sum-le zero h = omega arith
sum-le (suc n) {f} {g} h = omega (arith, sum-le n {f = f} {g = g} (λ i k. h i (omega arith)), h n (omega arith))

-- n terms of at most c.
pub sum_bound : (n c : ℕ) {f : ℕ → ℕ} → ((i : ℕ) → i < n → f i ≤ c) → sum n f ≤ n * c
sum_bound n c h = rw (← sum_const n c) (sum-le n h)

-- A longer sum is at least the shorter.
pub sum_grows : (f : ℕ → ℕ) (a b : ℕ) → sum a f ≤ sum (a + b) f
sum_grows f a b = omega (arith, sum_split a b f)

pub sum-none : (n : ℕ) {f : ℕ → ℕ} → ((i : ℕ) → i < n → f i ≡ 0) → sum n f ≡ 0
sum-none n h = sum_ext n h ∙ sum_const n 0 ∙ mul-zero n

pub sum_cong_none : {q : ℕ} (n : ℕ) {f : ℕ → ℕ} → ((i : ℕ) → i < n → Cong q (f i) 0) → Cong q (sum n f) 0
sum_cong_none n h = cong_trans (sum_cong n h) (cong_eq (sum-none n (λ i k. refl)))

-- ---- loops: acc ≡ sum i f % q
pub loop_first : (q : ℕ) (f : ℕ → ℕ) → 0 ≡ sum 0 f % q
loop_first q f = sym (ap (λ x. x % q) (sum_zero f) ∙ zero-mod q)

-- A turn that adds y, congruent to the next term, and reduces.
pub loop_next : (q i acc y : ℕ) (f : ℕ → ℕ) → acc ≡ sum i f % q → Cong q y (f i) → (acc + y) % q ≡ sum (i + 1) f % q
loop_next q i acc y f e h =
    rw (e, sum_more) (cong_add (cong_mod q (sum i f)) h).same

-- ---- shares
-- The shares of one number among n parties, the last being what the others leave of x, add up to x.
pub last_share : {q : ℕ} → 0 < q → (n x : ℕ) (f : ℕ → ℕ) → f n ≡ sub q x (sum n f) → Cong q (sum (suc n) f) x
last_share p n x f e =
    cong_trans (cong_eq (sum_suc n f ∙ ap (λ y. sum n f + y) e ∙ (omega arith))) (sub-add p x (sum n f))

-- The same for N parties, the last at N - 1.
pub last_of : {q : ℕ} → 0 < q → (N x : ℕ) (f : ℕ → ℕ) → 0 < N → f (N - 1) ≡ sub q x (sum (N - 1) f) → Cong q (sum N f) x
last_of p zero x f h e = absurd (omega arith)
last_of p (suc n) x f h e = last_share p n x f (rw (suc_sub-one n) at e)
  where
    suc_sub-one : (n : ℕ) → suc n - 1 ≡ n
    suc_sub-one n = omega arith

-- For `search`: from remainders, differences and sums to the same text with + and * alone, c standing for -1.
pub sum_down : {q : ℕ} (n : ℕ) {f g : ℕ → ℕ} → ((i : ℕ) → Cong q (f i) (g i)) → Cong q (sum n f) (sum n g)
sum_down n h = sum_cong n (λ i k. h i)

pub ruleset down = (drop-mod, drop-sub, cong_add, cong_mul, cong_refl, sum_down)
