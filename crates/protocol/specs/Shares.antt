-- Document 01, Shares and messages: one execution as whoever hashes it sees it. Executions e, parties i, columns k and rows l count
-- from 0 here; document 01 counts them from 1.
-- Assumes nothing.
use Rattle.std.specs.Prelude.{ℕ, suc, ◌+◌, ◌*◌, ◌-◌, ◌/◌, ◌%◌, Bool, List, [], ◌++◌, eqb}
use Rattle.lists.specs.Index.{pick, cat}
use Rattle.lists.specs.Bytes.{nums}
use Rattle.numbers.specs.Mod.{sub}
use Rattle.numbers.specs.Sum.{sum}
use Rattle.numbers.specs.Output.{Run, out}
use Rattle.sha_core.specs.Fips180.{sha256}
use Rattle.streams.specs.Streams.{block, draw}
use Rattle.tree.specs.Tree.{leaf}
use Rattle.protocol.specs.Key.{Key, A, t, depth}

abbrev pub sq : ℕ → ℕ
sq x = x * x

-- H is SHA-256.
abbrev pub H : List ℕ → List ℕ
H x = sha256 x

-- Every hash input is made here, from its kind as the pair reader numbers them (1 hΓ, 2 h(e), 3 Γ(i), 4 Ω, 5 hπ, 6 Π, 7 hψ, 8 Ψ), the
-- execution, the party (0 where there is none) and the body.
unfoldable pub input : ℕ → ℕ → ℕ → List ℕ → List ℕ
input kind e i body = body

-- One execution. Party N's d and s are fields, since they come from the prover or from part 7; so are the values of the hidden
-- party. Where nobody is hidden, `hid` is N.
pub record View : Type 0 where
  pub ex : ℕ
  pub seed : ℕ → List ℕ
  pub d_n : ℕ → ℕ
  pub s_n : ℕ → ℕ
  pub hid : ℕ
  pub Γh : List ℕ
  pub αh : ℕ → ℕ
  pub oh : ℕ

-- Number j of a leaf seed, from block 2 on: b(1..m), d(1..m), s(1..m) in one run; party N draws only b.
module _ (K : Key) where
  abbrev pub is_n : ℕ → Bool
  is_n i = eqb (suc i) K.N

  unfoldable pub share : List ℕ → ℕ → ℕ → ℕ
  share seed i j = draw K.q seed 2 (pick (is_n i) K.m (3 * K.m)) j

  -- Coefficients of execution e from the verifier's seed L: β(1..n), then γ(1..m), from block (e - 1) × ceil((n + m)/2) on.
  unfoldable pub coefficient : List ℕ → ℕ → ℕ → ℕ
  coefficient L e j = draw K.q L (e * ((K.n + K.m + 1) / 2)) (K.n + K.m) j

module _ (K : Key) (v : View) where
  abbrev pub is_hidden : ℕ → Bool
  is_hidden i = eqb i v.hid

  unfoldable pub b : ℕ → ℕ → ℕ
  b k i = share K (v.seed i) i k

  unfoldable pub d : ℕ → ℕ → ℕ
  d k i = pick (is_n K i) (v.d_n k) (share K (v.seed i) i (K.m + k))

  unfoldable pub s : ℕ → ℕ → ℕ
  s k i = pick (is_n K i) (v.s_n k) (share K (v.seed i) i (2 * K.m + k))

  -- α(k,i) = s(k,i) - b(k,i); α(k) is their sum over i.
  unfoldable pub α : ℕ → ℕ → ℕ
  α k i = pick (is_hidden i) (v.αh k) (sub K.q (s k i) (b k i))

  unfoldable pub αsum : ℕ → ℕ
  αsum k = sum K.N (α k) % K.q

  -- Γ(i) = com(seed of party i, r); for party N, its m numbers d follow the seed. com(y, r) = H(y followed by r).
  unfoldable pub Γin : ℕ → List ℕ
  Γin i =
      input 3 (suc v.ex) (suc i) (v.seed i ++ pick (is_n K i) (nums K.m v.d_n) [] ++ block (v.seed i) 0)

  unfoldable pub Γ : ℕ → List ℕ
  Γ i = pick (is_hidden i) v.Γh (H (Γin i))

  -- h(e) = H(Γ(1) .. Γ(N))
  unfoldable pub hin : List ℕ
  hin = input 2 (suc v.ex) 0 (cat K.N Γ)

  -- Ω = com(s(1) .. s(m) of party N, g(N)); g(N) is block 1 of party N's seed.
  unfoldable pub Ωin : List ℕ
  Ωin = input 4 (suc v.ex) K.N (nums K.m v.s_n ++ block (v.seed (K.N - 1)) 1)

  -- Π = com(all α(k,i), i running fastest, g). Document 01's seed K, κ here, gives block 2(e - 1) as g and 2(e - 1) + 1 as w.
  unfoldable pub Πin : List ℕ → List ℕ
  Πin κ = input 6 (suc v.ex) 0 (cat K.m (λ k. nums K.N (α k)) ++ block κ (2 * v.ex))

  -- the values that document 01's formula for o takes
  unfoldable pub run : List ℕ → Run
  run L =
      record {
        N = K.N;
        n = K.n;
        m = K.m;
        A = A K;
        t = t K;
        β = λ l. coefficient K L v.ex l;
        γ = λ k. coefficient K L v.ex (K.n + k);
        s = s;
        b = b;
        d = d;
      }

  -- o(i), with α(k) the sum above
  unfoldable pub o : List ℕ → ℕ → ℕ
  o L i = pick (is_hidden i) v.oh (out K.q (run L) αsum i)

  -- Ψ = com(o(1) .. o(N), w)
  unfoldable pub Ψin : List ℕ → List ℕ → List ℕ
  Ψin κ L = input 8 (suc v.ex) 0 (nums K.N (o L) ++ block κ (2 * v.ex + 1))

-- The prover's execution, from its master seed and the secret: for each k party N has d(k) = (sum of all b)² - the other d's and
-- s(k) = secret entry - the other s's.
unfoldable pub dealt : Key → ℕ → List ℕ → (ℕ → ℕ) → View
dealt K e master secret =
    let seed = leaf (depth K) master in
    record {
      ex = e;
      seed = seed;
      d_n = λ k. sub K.q (sq (sum K.N (λ i. share K (seed i) i k))) (sum (K.N - 1) (λ i. share K (seed i) i (K.m + k)));
      s_n = λ k. sub K.q (secret k) (sum (K.N - 1) (λ i. share K (seed i) i (2 * K.m + k)));
      hid = K.N;
      Γh = [];
      αh = λ k. 0;
      oh = 0;
    }
