-- Document 01, Shares and messages: the output o(i) of a party, and what the sum of all outputs says. Indices count from 0.
-- Assumes nothing.
use Rattle.std.specs.Prelude.{ℕ, ◌+◌, ◌*◌, ◌%◌, ◌<◌, ◌≤◌, ◌≡◌}
use Rattle.numbers.specs.Mod.{Cong, sub}
use Rattle.numbers.specs.Sum.{sum}
use Rattle.numbers.specs.Inverse.{inverse_of}

-- The numbers of one execution: N parties, n rows, m columns; A(l, k) and t(l) of the key; the coefficients β(l) and γ(k);
-- s(k, i), b(k, i) and d(k, i), the shares of party i.
pub record Run : Type 0 where
  pub N : ℕ
  pub n : ℕ
  pub m : ℕ
  pub A : ℕ → ℕ → ℕ
  pub t : ℕ → ℕ
  pub β : ℕ → ℕ
  pub γ : ℕ → ℕ
  pub s : ℕ → ℕ → ℕ
  pub b : ℕ → ℕ → ℕ
  pub d : ℕ → ℕ → ℕ

-- The number whose shares are f k 0 .. f k (N - 1).
unfoldable pub join : ℕ → (ℕ → ℕ → ℕ) → ℕ → ℕ
join N f k = sum N (f k)

-- α(k): the sum over the parties of α(k, i) = s(k, i) - b(k, i).
unfoldable pub alpha_of : ℕ → Run → ℕ → ℕ
alpha_of q r k = sum r.N (λ i. sub q (r.s k i) (r.b k i)) % q

-- o(i) = sum over l of β(l) (t(l)/N - sum over k of A(l, k) s(k, i)) + sum over k of γ(k) (α(k) (s(k, i) + b(k, i)) + d(k, i) - s(k, i)).
unfoldable pub out : ℕ → Run → (ℕ → ℕ) → ℕ → ℕ
out q r a i =
    (sum r.n (λ l. r.β l * sub q (r.t l * inverse_of q r.N) (sum r.m (λ k. r.A l k * r.s k i)))
    + sum r.m (λ k. r.γ k * sub q (a k * (r.s k i + r.b k i) + r.d k i) (r.s k i))
    ) % q

-- Document 01, Pair reader: u = t - A s.
unfoldable pub u_of : ℕ → ℕ → (ℕ → ℕ → ℕ) → (ℕ → ℕ) → (ℕ → ℕ) → ℕ → ℕ
u_of q m A t s l = sub q (t l) (sum m (λ k. A l k * s k))

-- Document 01, Pair reader: v(k) = s(k)² - s(k).
unfoldable pub v_of : ℕ → (ℕ → ℕ) → ℕ → ℕ
v_of q s k = sub q (s k * s k) (s k)

-- The combination of β(l) u(l) and γ(k) v(k).
unfoldable pub combined : ℕ → ℕ → (β u γ v : ℕ → ℕ) → ℕ
combined n m β u γ v = sum n (λ l. β l * u l) + sum m (λ k. γ k * v k)

-- A s = t, and every s(k) is 0 or 1.
pub record Solves (q n m : ℕ) (A : ℕ → ℕ → ℕ) (t s : ℕ → ℕ) : Type 0 where
  pub target : (l : ℕ) → l < n → Cong q (sum m (λ k. A l k * s k)) (t l)
  pub binary : (k : ℕ) → k < m → s k % q ≤ 1

-- d(k) = b(k)² for every k.
pub record Squares (q : ℕ) (r : Run) : Type 0 where
  pub square : (k : ℕ) → k < r.m → Cong q (join r.N r.d k) (join r.N r.b k * join r.N r.b k)

-- What `out` looks at: n, m, N, A, t, β and γ within their bounds, and the column of party i.
pub record Alike (r z : Run) (i : ℕ) : Type 0 where
  pub N : r.N ≡ z.N
  pub n : r.n ≡ z.n
  pub m : r.m ≡ z.m
  pub A : (l k : ℕ) → l < r.n → k < r.m → r.A l k ≡ z.A l k
  pub t : (l : ℕ) → l < r.n → r.t l ≡ z.t l
  pub β : (l : ℕ) → l < r.n → r.β l ≡ z.β l
  pub γ : (k : ℕ) → k < r.m → r.γ k ≡ z.γ k
  pub s : (k : ℕ) → k < r.m → r.s k i ≡ z.s k i
  pub b : (k : ℕ) → k < r.m → r.b k i ≡ z.b k i
  pub d : (k : ℕ) → k < r.m → r.d k i ≡ z.d k i

-- ---- The same number with one pass over the columns: what does not depend on the party is computed once.
-- -(sum over l of β(l) A(l, k)).
unfoldable pub weight_of : ℕ → ℕ → (ℕ → ℕ) → (ℕ → ℕ → ℕ) → ℕ → ℕ
weight_of q n β A k = sub q 0 (sum n (λ l. β l * A l k))

-- Sum over l of β(l) t(l)/N.
unfoldable pub base_of : ℕ → ℕ → ℕ → (β t : ℕ → ℕ) → ℕ
base_of q N n β t = sum n (λ l. β l * (t l * inverse_of q N)) % q

-- The term of column k of a party with s, b, d.
unfoldable pub term_of : ℕ → (w γ a s b d : ℕ) → ℕ
term_of q w γ a s b d = w * s + γ * sub q (a * (s + b) + d) s
