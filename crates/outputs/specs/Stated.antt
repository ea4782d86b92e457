-- The outputs that the code computes from lists, and the key and the execution for which they are document 01's o.
-- Assumes nothing.
use Rattle.std.specs.Prelude.{ℕ, ◌+◌, ◌*◌, ◌<◌, ◌≡◌, Bool, true, false, List, ◌++◌, eqb, get_or, drop}
use Rattle.std.proofs.Math.Path.{refl, sym, ap, ap₂}
use Rattle.std.proofs.Common.{◌∙◌, zero-add, arith, ne_eqb}
use Rattle.std.proofs.Math.Arith.{digits_lt}
use Rattle.std.proofs.lemmas.Bool.{eqb-false}
use Rattle.lists.specs.Tab.{tab, tab_ext}
use Rattle.lists.specs.Index.{pick}
use Rattle.numbers.proofs.Mod.{cong_eq}
use Rattle.numbers.specs.Output.{Run, out, Alike, weight_of, base_of}
use Rattle.numbers.proofs.Output.{out_ext, out-lt, out_once}
use Rattle.streams.specs.Streams.{number, draw_is}
use Rattle.protocol.specs.Key.{Key}
use Rattle.protocol.specs.Shares.{View, b, d, s, αsum, o, run, coefficient}
use Rattle.execution.specs.Shown.{Sized, Holds, place_of}
use Rattle.outputs.specs.Steps.{at, cell, target, first_block, party_of, shown_of}

-- the lists stand for the key and for the execution; what stands in work at the hidden party's places is free
pub record Stated (q n m N hid e given : ℕ) (entries alphas work : List ℕ) (K : Key) (v : View) : Type 0 where
  pub sized : Sized q m N K
  pub rows : K.n ≡ n
  pub entry : (j : ℕ) → j < n * (m + 1) → K.entry j ≡ get_or entries j 0
  pub ex : v.ex ≡ e
  pub hidden : v.hid ≡ hid
  pub shown : v.oh ≡ given
  pub bs : Holds K.m K.N v.hid 0 work (b K v)
  pub ds : Holds K.m K.N v.hid K.m work (d K v)
  pub ss : Holds K.m K.N v.hid (2 * K.m) work (s K v)
  pub sums : (k : ℕ) → k < K.m → get_or alphas k 0 ≡ αsum K v k

-- a coefficient is a number of the verifier's seed
pub coefficient_is : (K : Key) (L : List ℕ) (e j : ℕ) → coefficient K L e j ≡ number K.q L (first_block K.n K.m e) j
unfolding coefficient
coefficient_is K L e j = draw_is _ _ _ _ _

-- the outputs of open parties are below q
pub o_lt : (K : Key) (v : View) (L : List ℕ) (i : ℕ) → 0 < K.q → (i ≡ v.hid → ⊥) → o K v L i < K.q
unfolding o
o_lt K v L i p h = rw (ne_eqb i v.hid h) (out-lt p _ _ i)

-- all are where the hidden one's is
pub o_below : (K : Key) (v : View) (L : List ℕ) (i : ℕ) → 0 < K.q → v.oh < K.q → o K v L i < K.q
unfolding o
o_below K v L i p h = go (eqb i v.hid)
  where
    go : (t : Bool) → pick t v.oh (out K.q (run K v L) (αsum K v) i) < K.q
    go true = h
    go false = out-lt p _ _ i

-- the numbers that document 01's formula for o takes, from lists and the coefficients
unfoldable pub run_of : (N n m : ℕ) → (β γ : ℕ → ℕ) → (entries work : List ℕ) → Run
run_of N n m β γ entries work =
    record {
      N = N;
      n = n;
      m = m;
      A = cell m entries;
      t = target n m entries;
      β = β;
      γ = γ;
      s = λ k i. at work (place_of m i (2 * m + k));
      b = λ k i. at work (place_of m i k);
      d = λ k i. at work (place_of m i (m + k));
    }

-- the same with the coefficients of execution e, counted from 0, drawn from the verifier's seed L
unfoldable pub drawn_run : (q n m N e : ℕ) → (L entries work : List ℕ) → Run
drawn_run q n m N e L entries work =
    run_of N n m (number q L (first_block n m e)) (λ k. number q L (first_block n m e) (n + k)) entries work

-- o(i) from lists, whatever they stand for: given for the hidden party, by document 01's formula for the others
unfoldable pub output_at : (q n m N hid e given : ℕ) → (L entries alphas work : List ℕ) → ℕ → ℕ
output_at q n m N hid e given L entries alphas work i =
    pick (eqb i hid) given (out q (drawn_run q n m N e L entries work) (at alphas) i)

-- of the list of α(k), the first m count
pub output_ext : (q n m N hid e given : ℕ) (L entries : List ℕ) (a c : List ℕ) (work : List ℕ) → ((k : ℕ) → k < m → at a k ≡ at c k) → (i : ℕ)
    → output_at q n m N hid e given L entries a work i ≡ output_at q n m N hid e given L entries c work i
unfolding output_at drawn_run run_of
output_ext q n m N hid e given L entries a c work h i =
    ap (λ x. pick (eqb i hid) given x)
    (out_ext q (drawn_run q n m N e L entries work) (drawn_run q n m N e L entries work) (at a) (at c) i
    (record {
      N = refl;
      n = refl;
      m = refl;
      A = λ l k hl hk. refl;
      t = λ l hl. refl;
      β = λ l hl. refl;
      γ = λ k hk. refl;
      s = λ k hk. refl;
      b = λ k hk. refl;
      d = λ k hk. refl;
    })
    h)

-- cs holds the coefficients of execution e
pub record Drawn (q n m e : ℕ) (L cs : List ℕ) : Type 0 where
  pub at : (j : ℕ) → j < n + m → get_or cs j 0 ≡ number q L (first_block n m e) j

-- the outputs stand in the first N places of what was lent
pub record Answers (q n m N hid given : ℕ) (cs entries alphas work before after : List ℕ) : Type 0 where
  pub are : (L : List ℕ) (e : ℕ) → Drawn q n m e L cs → after ≡ tab N (output_at q n m N hid e given L entries alphas work) ++ drop N before

-- the base and the weights of an execution
pub record Prepared (q n m N : ℕ) (cs entries : List ℕ) (base : ℕ) (ws : List ℕ) : Type 0 where
  pub start : base ≡ base_of q N n (at cs) (target n m entries)
  pub weight : (k : ℕ) → k < m → at ws k ≡ weight_of q n (at cs) (cell m entries) k

-- what the steps compute is o(i)
pub shown_is : {q n m N e base : ℕ} (hid given : ℕ) {entries L cs ws : List ℕ} (alphas work : List ℕ) → 0 < q → Drawn q n m e L cs
    → (gs : List ℕ) → ((k : ℕ) → k < m → at gs k ≡ at cs (n + k)) → Prepared q n m N cs entries base ws → (i : ℕ)
    → shown_of q m hid given base ws gs alphas work i ≡ output_at q n m N hid e given L entries alphas work i
unfolding shown_of party_of run_of drawn_run output_at
shown_is {q} {n} {m} {N} {e} {base} hid given {entries} {L} {cs} {ws} alphas work p D gs G P i = ap (λ x. pick (eqb i hid) given x) here
  where
    steps : Run
    steps = run_of N n m (at cs) (at gs) entries work

    here : party_of q m base ws gs alphas work i ≡ out q (drawn_run q n m N e L entries work) (at alphas) i
    here =
        sym (out_once p steps (at alphas) i base (at ws) (cong_eq P.start) (λ k h. cong_eq (P.weight k h)))
        ∙ out_ext q steps (drawn_run q n m N e L entries work) (at alphas) (at alphas) i
        (record {
          N = refl;
          n = refl;
          m = refl;
          A = λ l k hl hk. refl;
          t = λ l hl. refl;
          β = λ l hl. D.at l (omega arith);
          γ = λ k hk. G k hk ∙ D.at (n + k) (omega arith);
          s = λ k hk. refl;
          b = λ k hk. refl;
          d = λ k hk. refl;
        })
        (λ k h. refl)

module _ {q n m N hid e given : ℕ} {entries alphas work : List ℕ} {K : Key} {v : View} (S : Stated q n m N hid e given entries alphas work K v) (L : List ℕ) where
  -- the lists' numbers of an open party are those of the execution
  alike : (i : ℕ) → i < N → (i ≡ hid → ⊥) → Alike (drawn_run q n m N e L entries work) (run K v L) i
  unfolding run_of drawn_run run
  alike i hi ho =
      record {
        N = sym S.sized.parties;
        n = sym S.rows;
        m = columns;
        A = λ l k hl hk. sym (S.entry (l * m + k) (omega (arith, digits_lt hl hk))) ∙ ap (λ x. K.entry (l * x + k)) columns;
        t = λ l hl. sym (S.entry (n * m + l) (omega arith)) ∙ ap₂ (λ x y. K.entry (x * y + l)) (sym S.rows) columns;
        β = λ l hl. drawn l;
        γ = λ k hk. drawn (n + k) ∙ ap (λ x. coefficient K L v.ex (x + k)) (sym S.rows);
        s = λ k hk. ap (λ x. at work (place_of x i (2 * x + k))) columns ∙ S.ss.at k i (below hk) party seen;
        b = λ k hk. ap₂ (λ x y. at work (place_of x i y)) columns (sym (zero-add k)) ∙ S.bs.at k i (below hk) party seen;
        d = λ k hk. ap (λ x. at work (place_of x i (x + k))) columns ∙ S.ds.at k i (below hk) party seen;
      }
    where
      columns : m ≡ K.m
      columns = sym S.sized.columns

      below : {k : ℕ} → k < m → k < K.m
      below h = omega (arith, S.sized.columns)

      party : i < K.N
      party = omega (arith, S.sized.parties)

      seen : i ≡ v.hid → ⊥
      seen z = ho (z ∙ S.hidden)

      drawn : (j : ℕ) → number q L (first_block n m e) j ≡ coefficient K L v.ex j
      drawn j = sym (coefficient_is K L v.ex j ∙ rw (S.sized.modulus, S.rows, S.sized.columns, S.ex))

  -- where the lists stand for a key and an execution, o(i) is document 01's
  pub output_is : (i : ℕ) → i < N → output_at q n m N hid e given L entries alphas work i ≡ o K v L i
  unfolding output_at run_of drawn_run o
  output_is i hi = go (eqb i hid) refl ∙ sym plain
    where
      plain : o K v L i ≡ pick (eqb i hid) given (out q (run K v L) (αsum K v) i)
      plain = λ j. pick (eqb i (S.hidden j)) (S.shown j) (out (S.sized.modulus j) (run K v L) (αsum K v) i)

      go : (t : Bool) → eqb i hid ≡ t → pick t given (out q (drawn_run q n m N e L entries work) (at alphas) i) ≡ pick t given (out q (run K v L) (αsum K v) i)
      go true z = refl
      go false z =
          out_ext q (drawn_run q n m N e L entries work) (run K v L) (at alphas) (αsum K v) i (alike i hi (eqb-false i hid z)) (λ k h. S.sums k (omega (arith, S.sized.columns)))

  pub outputs_are : (rest : List ℕ) {xs : List ℕ} → xs ≡ tab N (output_at q n m N hid e given L entries alphas work) ++ rest → xs ≡ tab N (o K v L) ++ rest
  outputs_are rest is = is ∙ ap (λ (x : List ℕ). x ++ rest) (tab_ext N _ _ output_is)
