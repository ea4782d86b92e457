-- From the bytes that the code writes to the hash inputs of document 01.
-- Assumes nothing.
use Prim.Native.Nat.{ℕ, suc, ◌+◌, ◌*◌, ◌-◌, ◌<◌, ◌≤◌}
use mathlib.Core.Path.{◌≡◌, refl, sym, ◌∙◌, ap, ap₂, subst}
use mathlib.Core.Bool.{Bool, true, false}
use mathlib.Core.List.{List, [], ◌++◌, append-nil, append_assoc}
use native.Mathlib.Nat.{mul-le-mul_left}
use native.Mathlib.Numerals.{add-one}
use native.Mathlib.Omega.{arith}
use native.Mathlib.Decide.{ℕ_discrete}
use borrow.Author.Tests.{eq-eqb, ne_eqb}
use lib.Dec.{eqb}
use lib.ListN.{length, take, drop, length-append, drop_of_length-le}
use Rattle.lists.specs.Index.{cat, pick, part}
use Rattle.lists.specs.Tab.{tab}
use Rattle.lists.specs.Bytes.{words}
use Rattle.lists.specs.CatLaws.{cat-more, cat-length, cat-part, part_length, part-first, part_right, part_mid, part-last, words-length}
use Rattle.sha_core.specs.Digest.{sha256-length}
use Rattle.streams.specs.Streams.{block, block-length}
use Rattle.protocol.specs.Key.{Key}
use Rattle.protocol.specs.Shares.{View, input, o, Γin, Ψin, Πin, hin, Ωin}
use Rattle.protocol.specs.Transcript.{Parts}
use Rattle.protocol.specs.Judge.{κ, kept_view}
use Rattle.protocol.proofs.Demand3Lengths.{Πin_length, Ψin_length}
use Rattle.execution.specs.Shown.{Shown}
use Rattle.execution.proofs.Laws.{inside}
use Rattle.views.specs.Seen.{gamma_open, gamma_at, ForH, ForΩ}
use Rattle.views.proofs.Laws.{d_part, h_is, omega_is, psi_is}
use Rattle.outputs.specs.Stated.{Stated}
use Rattle.kept.specs.Kept.{KeptIn}
use Rattle.kept.proofs.Laws.{kept_for_h, kept_for_Ω}
use Rattle.inputs.specs.Layout.{Γ_from, Γ_size, Ω_from, Π_from, Ψ_from, execution_size, Written}
use Rattle.inputs.specs.Steps.{gamma_in, omega_in}

-- ---- places
-- row k of m rows of w bytes ends within them
pub row_ends : (w m k at : ℕ) → at ≡ w * k → k < m → at + w ≤ w * m
row_ends w m k at e h = let z : w * suc k ≤ w * m = mul-le-mul_left w h in omega arith

-- ---- the inputs
pub pi_label : (e : ℕ) (x : List ℕ) → x ≡ input 6 e 0 x
unfolding input
pi_label e x = refl

psi_label : (e : ℕ) (x : List ℕ) → x ≡ input 8 e 0 x
unfolding input
psi_label e x = refl

pub psi_in : {q n m N hid e x : ℕ} {entries sums work : List ℕ} {K : Key} {v : View} → Stated q n m N hid e x entries sums work K v
    → (κ L before : List ℕ) {outs out : List ℕ} → length before ≡ N → outs ≡ tab N (o K v L) ++ drop N before → out ≡ words outs ++ block κ (2 * e + 1) → out ≡ Ψin K v κ L
psi_in {N} {K} {v} so κ L before {outs} {out} long is p =
    p
    ∙ (psi_label _ _
    ∙ psi_is K v κ L so.ex
    (is
    ∙ (ap (λ (x : List ℕ). tab N (o K v L) ++ x) (drop_of_length-le before {i = N} (omega (arith, long)))
    ∙ (append-nil (tab N (o K v L)) ∙ ap (λ (x : ℕ). tab x (o K v L)) (sym so.sized.parties)))))

-- Γ(i)'s input of an open party
module _ {m N hid e : ℕ} {given leaves work : List ℕ} {K : Key} {v : View} (so : ForH m N hid e given leaves work K v) (long : 3 * m * N ≤ length work) where
  pub gamma_in_lem : (i : ℕ) → i < N → (i ≡ hid → ⊥) → gamma_in m N e leaves work i ≡ Γin K v i
  unfolding gamma_in Γin
  gamma_in_lem i h other =
      let seed : part leaves (16 * i) 16 ≡ v.seed i = so.seeds.at i (rw so.parties h) (λ y. other (y ∙ so.hidden)) in
      rw (so.ex, so.parties, so.columns, add-one e, add-one i, seed, d_part so long i h other (ℕ_discrete (suc i) N))

-- ---- lengths
pub gamma_length : (m N e : ℕ) (leaves work : List ℕ) → length leaves ≡ 16 * N → 3 * m * N ≤ length work
    → (i : ℕ) → i < N → length (gamma_in m N e leaves work i) ≡ 32 + pick (eqb (suc i) N) (4 * m) 0
unfolding gamma_in input words
gamma_length m N e leaves work l r i h =
    let seed : length (part leaves (16 * i) 16) ≡ 16 = part_length leaves (16 * i) 16 (omega arith) in
    let numbers : length (part work (3 * m * i + m) m) ≡ m = part_length work (3 * m * i + m) m (omega (arith, inside m N i h)) in
    omega (
      arith,
      length-append (part leaves (16 * i) 16 ++ words (pick (eqb (suc i) N) (part work (3 * m * i + m) m) [])) (block (part leaves (16 * i) 16) 0),
      length-append (part leaves (16 * i) 16) (words (pick (eqb (suc i) N) (part work (3 * m * i + m) m) [])),
      seed,
      block-length (part leaves (16 * i) 16) 0,
      middle (part work (3 * m * i + m) m) numbers (eqb (suc i) N),
    )
  where
    middle : (x : List ℕ) → length x ≡ m → (t : Bool) → length (words (pick t x [])) ≡ pick t (4 * m) 0
    middle x k true = words-length x ∙ ap (λ n. 4 * n) k
    middle x k false = refl

module _ (m N e : ℕ) (leaves work : List ℕ) (l : length leaves ≡ 16 * N) (r : 3 * m * N ≤ length work) where
  gamma_before : (i : ℕ) → i < N → length (cat i (gamma_in m N e leaves work)) ≡ 32 * i
  gamma_before i h =
      cat-length i 32 (gamma_in m N e leaves work)
      (λ j k. let z : suc j ≡ N → ⊥ = λ y. omega arith in gamma_length m N e leaves work l r j (omega arith) ∙ rw (ne_eqb (suc j) N z))
      ∙ omega arith

  gammas_length : 1 ≤ N → length (cat N (gamma_in m N e leaves work)) ≡ 32 * N + 4 * m
  gammas_length some =
      let w : N - 1 + 1 ≡ N = omega arith in
      let z : suc (N - 1) ≡ N = omega arith in
      let last : length (gamma_in m N e leaves work (N - 1)) ≡ 32 + 4 * m = gamma_length m N e leaves work l r (N - 1) (omega arith) ∙ rw (eq-eqb (suc (N - 1)) N z) in
      ap (λ n. length (cat n (gamma_in m N e leaves work))) (sym w)
      ∙ (ap length (cat-more (N - 1) (gamma_in m N e leaves work))
      ∙ omega (arith, length-append (cat (N - 1) (gamma_in m N e leaves work)) (gamma_in m N e leaves work (N - 1)), gamma_before (N - 1) (omega arith), last))

  omega_length : 1 ≤ N → length (omega_in m N e leaves work) ≡ 4 * m + 16
  unfolding omega_in input
  omega_length some =
      omega (
        arith,
        length-append (words (part work (3 * m * (N - 1) + 2 * m) m)) (block (part leaves (16 * (N - 1)) 16) 1),
        words-length (part work (3 * m * (N - 1) + 2 * m) m),
        part_length work (3 * m * (N - 1) + 2 * m) m (omega (arith, inside m N (N - 1) (omega arith))),
        block-length (part leaves (16 * (N - 1)) 16) 1,
      )

  h_length : (hid : ℕ) (given : List ℕ) → length given ≡ 32 → length (input 2 (e + 1) 0 (cat N (gamma_at m N hid e given leaves work))) ≡ 32 * N
  unfolding input gamma_at gamma_open
  h_length hid given g = cat-length N 32 (gamma_at m N hid e given leaves work) (λ i h. one (eqb i hid) (gamma_open m N e leaves work i) (sha256-length _)) ∙ omega arith
    where
      one : (t : Bool) (x : List ℕ) → length x ≡ 32 → length (pick t given x) ≡ 32
      one true x k = g
      one false x k = k

-- Ω's input
omega_shown : {m N e : ℕ} {leaves work : List ℕ} {K : Key} {v : View} → ForΩ m N e leaves work K v → 1 ≤ N → 3 * m * N ≤ length work → omega_in m N e leaves work ≡ Ωin K v
unfolding omega_in
omega_shown so some r = omega_is so some r

-- ---- five lists in a row
module _ (a b c d f : List ℕ) where
  abbrev row : List ℕ
  row = (a ++ b) ++ (c ++ (d ++ f))

  first_of : (n : ℕ) → length a ≡ n → part row 0 n ≡ a
  first_of n h = ap (λ (x : List ℕ). part x 0 n) (append_assoc a b (c ++ (d ++ f))) ∙ part-first a (b ++ (c ++ (d ++ f))) n h

  second_of : (n i w : ℕ) → length a ≡ n → part row (n + i) w ≡ part (b ++ (c ++ (d ++ f))) i w
  second_of n i w h = ap (λ (x : List ℕ). part x (n + i) w) (append_assoc a b (c ++ (d ++ f))) ∙ part_right a (b ++ (c ++ (d ++ f))) n i w h

  third_of : (i n : ℕ) → length (a ++ b) ≡ i → length c ≡ n → part row i n ≡ c
  third_of i n h k = ap (λ (x : List ℕ). part x i n) (sym (append_assoc (a ++ b) c (d ++ f))) ∙ part_mid (a ++ b) c (d ++ f) i n h k

  fourth_of : (i n : ℕ) → length ((a ++ b) ++ c) ≡ i → length d ≡ n → part row i n ≡ d
  fourth_of i n h k =
      ap (λ (x : List ℕ). part x i n) (sym (append_assoc (a ++ b) c (d ++ f)) ∙ sym (append_assoc ((a ++ b) ++ c) d f))
      ∙ part_mid ((a ++ b) ++ c) d f i n h k

  fifth_of : (i n : ℕ) → length (((a ++ b) ++ c) ++ d) ≡ i → length f ≡ n → part row i n ≡ f
  fifth_of i n h k =
      ap (λ (x : List ℕ). part x i n) (sym (append_assoc (a ++ b) c (d ++ f)) ∙ sym (append_assoc ((a ++ b) ++ c) d f))
      ∙ part-last (((a ++ b) ++ c) ++ d) f i n h k

-- the same list, its parts written one after the other
pub in_row : {a b c d f a' b' c' d' f' : List ℕ} → a ≡ a' → b ≡ b' → c ≡ c' → d ≡ d' → f ≡ f' → a ++ (b ++ (c ++ (d ++ f))) ≡ row a' b' c' d' f'
in_row {a' = a'} {b'} {c'} {d'} {f'} h i j k l = rw (h, i, j, k, l) (sym (append_assoc a' b' (c' ++ (d' ++ f'))))

-- ---- the whole
module _ {q n m N D hid e : ℕ} {reply kappa seed entries : List ℕ} {K : Key} {P : Parts} (so : KeptIn q n m N D hid e reply kappa seed entries K P) {leaves work : List ℕ}
    (S : Shown K (kept_view K P e) leaves work) (some : 1 ≤ N) (l : length leaves ≡ 16 * N) (r : 3 * m * N ≤ length work) (long : 16 * D + 32 ≤ length reply) where
  abbrev v : View
  v = kept_view K P e

  abbrev given : List ℕ
  given = take (16 * D + 32 - 16 * D) (drop (16 * D) reply)

  abbrev hs : List ℕ
  hs = input 2 (e + 1) 0 (cat N (gamma_at m N hid e given leaves work))

  abbrev gs : List ℕ
  gs = cat N (gamma_in m N e leaves work)

  abbrev os : List ℕ
  os = omega_in m N e leaves work

  abbrev ps : List ℕ
  ps = Πin K v kappa

  abbrev ws : List ℕ
  ws = Ψin K v kappa seed

  hs_long : length hs ≡ 32 * N
  hs_long =
      let z : 16 * D + 32 - 16 * D ≡ 32 = omega arith in
      h_length m N e leaves work l r hid given (rw z (part_length reply (16 * D) 32 long))

  ps_long : length ps ≡ 4 * m * N + 16
  ps_long = Πin_length K v kappa ∙ ap₂ (λ (x y : ℕ). x * (4 * y) + 16) so.sized.columns so.sized.parties ∙ omega arith

  ws_long : length ws ≡ 4 * N + 16
  ws_long = Ψin_length K v kappa seed ∙ ap (λ (x : ℕ). 4 * x + 16) so.sized.parties

  front_long : length (hs ++ gs) ≡ Ω_from m N
  front_long = omega (arith, length-append hs gs, hs_long, gammas_length m N e leaves work l r some)

  to_Π : length ((hs ++ gs) ++ os) ≡ Π_from m N
  to_Π = omega (arith, length-append (hs ++ gs) os, front_long, omega_length m N e leaves work l r some)

  to_Ψ : length (((hs ++ gs) ++ os) ++ ps) ≡ Ψ_from m N
  to_Ψ = omega (arith, length-append ((hs ++ gs) ++ os) ps, to_Π, ps_long)

  h_part : part (row hs gs os ps ws) 0 (32 * N) ≡ hin K v
  h_part = first_of hs gs os ps ws (32 * N) hs_long ∙ h_is (kept_for_h so S some) r

  Γ_part : (i : ℕ) → i < N → (i ≡ hid → ⊥) → part (row hs gs os ps ws) (Γ_from N i) (Γ_size m N i) ≡ Γin K v i
  Γ_part i h other =
      second_of hs gs os ps ws (32 * N) (32 * i) (Γ_size m N i) hs_long
      ∙ (cat-part N (gamma_in m N e leaves work) (os ++ (ps ++ ws)) i (32 * i) (Γ_size m N i) h (gamma_before m N e leaves work l r i h) (gamma_length m N e leaves work l r i h)
      ∙ gamma_in_lem (kept_for_h so S some) r i h other)

  Ω_part : (suc hid ≡ N → ⊥) → part (row hs gs os ps ws) (Ω_from m N) (4 * m + 16) ≡ Ωin K v
  Ω_part other =
      third_of hs gs os ps ws (Ω_from m N) (4 * m + 16) front_long (omega_length m N e leaves work l r some)
      ∙ omega_shown (kept_for_Ω so S some other) some r

  Π_part : part (row hs gs os ps ws) (Π_from m N) (4 * m * N + 16) ≡ Πin K v kappa
  Π_part = fourth_of hs gs os ps ws (Π_from m N) (4 * m * N + 16) to_Π ps_long

  Ψ_part : part (row hs gs os ps ws) (Ψ_from m N) (4 * N + 16) ≡ Ψin K v kappa seed
  Ψ_part = fifth_of hs gs os ps ws (Ψ_from m N) (4 * N + 16) to_Ψ ws_long

  row-long : length (row hs gs os ps ws) ≡ execution_size m N
  row-long =
      let w : length ((hs ++ gs) ++ (os ++ (ps ++ ws))) ≡ length (hs ++ gs) + (length os + (length ps + length ws)) =
      length-append (hs ++ gs) (os ++ (ps ++ ws)) ∙ ap (λ n. length (hs ++ gs) + n) (length-append os (ps ++ ws) ∙ ap (λ n. length os + n) (length-append ps ws)) in
      omega (arith, w, front_long, omega_length m N e leaves work l r some, ps_long, ws_long)

  pub written : {x : List ℕ} → x ≡ row hs gs os ps ws → Written K v (κ K P) P.p4 x
  unfolding kept_view
  written {x} is =
      subst (λ (k : List ℕ). Written K v k P.p4 x) (sym so.κ_is)
      (subst (λ (t : List ℕ). Written K v kappa t x) (sym so.l_is) (subst (λ (y : List ℕ). Written K v kappa seed y) (sym is) whole))
    where
      whole : Written K v kappa seed (row hs gs os ps ws)
      whole =
          let eN = so.sized.parties in
          let em = so.sized.columns in
          record {
            long = row-long ∙ sym (ap₂ execution_size em eN);
            h = ap (λ (b : ℕ). part (row hs gs os ps ws) 0 (32 * b)) eN ∙ h_part;
            Γ = λ i h other.
                ap₂ (λ (a b : ℕ). part (row hs gs os ps ws) (Γ_from b i) (Γ_size a b i)) em eN
                ∙ Γ_part i (subst (λ (b : ℕ). i < b) eN h) (λ z. other (z ∙ sym so.hides));
            Ω = λ other.
                ap₂ (λ (a b : ℕ). part (row hs gs os ps ws) (Ω_from a b) (4 * a + 16)) em eN
                ∙ Ω_part (λ z. other (ap suc so.hides ∙ (z ∙ sym eN)));
            Π = ap₂ (λ (a b : ℕ). part (row hs gs os ps ws) (Π_from a b) (4 * a * b + 16)) em eN ∙ Π_part;
            Ψ = ap₂ (λ (a b : ℕ). part (row hs gs os ps ws) (Ψ_from a b) (4 * b + 16)) em eN ∙ Ψ_part;
          }

  -- the list itself
  pub laid_out : {x : List ℕ} → x ≡ row hs gs os ps ws
      → x ≡ row (input 2 (e + 1) 0 (cat N (gamma_at m N hid e (part reply (16 * D) 32) leaves work))) gs os ps ws
  laid_out is =
      let z : 16 * D + 32 - 16 * D ≡ 32 = omega arith in
      is ∙ ap (λ (w : ℕ). row (input 2 (e + 1) 0 (cat N (gamma_at m N hid e (take w (drop (16 * D) reply)) leaves work))) gs os ps ws) z
