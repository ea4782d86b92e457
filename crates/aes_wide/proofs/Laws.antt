-- Sixteen blocks side by side: what stands at each of the 256 places, and the two loops that write them, a row or a column of rows at a time.
-- Assumes nothing.
use Rattle.std.proofs.Common.{◌≡◌, refl, sym, ap, ◌∙◌, subst, List, [], ◌∷◌, ℕ, ◌+◌, ◌*◌, ◌-◌, ◌/◌, ◌%◌, ◌^◌, ◌≤◌, ◌<◌, ◌++◌, add-one, arith, bit_xor, length, get_or, set, take, drop, replicate, length-set, get_or-set_same, get_or-set_other, pow-add}
use Rattle.std.proofs.lemmas.List.{length-append, length-drop, length-take-le, get_or-append-add, get_or-take, get_or-replicate}
use Rattle.std.proofs.Math.ListN.{get_or-append}
use Rattle.std.proofs.Math.Decide.{ℕ_discrete, dec_lt}
use Rattle.std.proofs.Math.Nat.{div-div-eq-div-mul}
use Rattle.std.specs.Int.{to_be_bytes, w128}
use Rattle.lists.specs.Tab.{tab, tab-length, tab-at, list_is_tab, Filling, more, counted, done}
use Rattle.lists.specs.Test.{same}
use Rattle.sbox.specs.Sbox.{sbox_of}
use Rattle.aes.specs.Fips197.{sub_bytes, shift_rows, mix_byte, mix_columns, add_key, rounds, cipher}
use Rattle.aes.proofs.Laws.{sub_shift_at, mix_at, Column, mixed}
use Rattle.aes_wide.specs.Wide.{lane, Lanes, part, Blocks, Flat, counter}

lane-at : (s : List ℕ) (l p q : ℕ) → p < 16 → 16 * p + l ≡ q → get_or (lane s l) p 0 ≡ get_or s q 0
unfolding lane
lane-at s l p q h e = tab-at 16 (λ k. get_or s (16 * k + l) 0) p h ∙ ap (λ k. get_or s k 0) e

-- What stands at place k where block l is g l.
unfoldable pub sideways : (ℕ → List ℕ) → ℕ → ℕ
sideways g k = get_or (g (k % 16)) (k / 16) 0

sideways-at : (g : ℕ → List ℕ) (p l k : ℕ) → l < 16 → 16 * p + l ≡ k → get_or (g l) p 0 ≡ sideways g k
unfolding sideways
sideways-at g p l k h e =
    let block : l ≡ k % 16 = omega arith in
    let byte : p ≡ k / 16 = omega arith in
    λ z. get_or (g (block z)) (byte z) 0

pub lanes : (r : List ℕ) (g : ℕ → List ℕ) → ((l : ℕ) → length (g l) ≡ 16) → r ≡ tab 256 (sideways g) → Lanes r g
unfolding lane
lanes r g size e =
    record {
      long = ap length e ∙ tab-length 256 (sideways g);
      each =
          λ l h.
          sym
          (list_is_tab 16 (g l) (λ p. get_or r (16 * p + l) 0) (size l)
          (λ p q.
          sideways-at g p l (16 * p + l) h refl
          ∙ sym (tab-at 256 (sideways g) (16 * p + l) (omega arith))
          ∙ ap (λ x. get_or x (16 * p + l) 0) (sym e)));
    }

-- ---- a row of sixteen bytes at a time

-- The rows before p are written, and of row p the first l bytes.
pub record Rows (r : List ℕ) (p l : ℕ) (g : ℕ → List ℕ) : Type 0 where
  pub within : l ≤ 16
  pub so_far : Filling 256 r (16 * p + l) (sideways g)

pub row_more : {r : List ℕ} {p l : ℕ} {g : ℕ → List ℕ} {v : ℕ} → Rows r p l g → p < 16 → l < 16 → v ≡ get_or (g l) p 0 → Rows (set r (16 * p + l) v) p (l + 1) g
row_more {r} {p} {l} {g} {v} rows hp hl e =
    record {
      within = omega arith;
      so_far = counted (omega arith) (more rows.so_far (omega arith) (e ∙ sideways-at g p l (16 * p + l) hl refl));
    }

pub row_next : {r : List ℕ} {p l : ℕ} {g : ℕ → List ℕ} → Rows r p l g → 16 ≤ l → Rows r (p + 1) 0 g
row_next {r} {p} {l} {g} rows h =
    let k : l ≤ 16 = rows.within in
    record { within = omega arith; so_far = counted (omega arith) rows.so_far }

-- Row p is filled with x.
pub row_filled : {r ys : List ℕ} {p m : ℕ} {g : ℕ → List ℕ} (x : ℕ) → Rows r p 0 g → p < 16 → m ≡ 16
    → ys ≡ replicate (length (take m (drop (16 * p) r))) x → ((l : ℕ) → l < 16 → x ≡ get_or (g l) p 0)
    → Rows (take (16 * p) r ++ (ys ++ drop m (drop (16 * p) r))) (p + 1) 0 g
row_filled {r} {ys} {p} {m} {g} x rows hp hm e same =
    record { within = omega arith; so_far = record { long = whole; within = omega arith; filled = λ k h. go k (omega arith) } }
  where
    long : length r ≡ 256
    long = rows.so_far.long

    count : length (take m (drop (16 * p) r)) ≡ 16
    count = length-take-le m (drop (16 * p) r) (simp length-drop (omega (arith, long))) ∙ hm

    front : length (take (16 * p) r) ≡ 16 * p
    front = length-take-le (16 * p) r (omega (arith, long))

    row : ys ≡ replicate 16 x
    row = e ∙ ap (λ n. replicate n x) count

    wide : length ys ≡ 16
    wide = ap (λ l. length l) row

    whole : length (take (16 * p) r ++ (ys ++ drop m (drop (16 * p) r))) ≡ 256
    whole = simp (length-append, length-drop) (omega (arith, long, front, wide))

    before : (k : ℕ) → k < 16 * p → get_or (take (16 * p) r ++ (ys ++ drop m (drop (16 * p) r))) k 0 ≡ sideways g k
    before k h =
        get_or-append (take (16 * p) r) (ys ++ drop m (drop (16 * p) r)) 0 k (omega (arith, front))
        ∙ get_or-take (16 * p) r k 0 h ∙ rows.so_far.filled k (omega arith)

    here : (k : ℕ) → 16 * p ≤ k → k < 16 * p + 16 → get_or (take (16 * p) r ++ (ys ++ drop m (drop (16 * p) r))) k 0 ≡ sideways g k
    here k low h =
        let l = k - 16 * p in
        let place : length (take (16 * p) r) + l ≡ k = omega (arith, front) in
        ap (λ i. get_or (take (16 * p) r ++ (ys ++ drop m (drop (16 * p) r))) i 0) (sym place)
        ∙ get_or-append-add (take (16 * p) r) (ys ++ drop m (drop (16 * p) r)) l 0
        ∙ get_or-append ys (drop m (drop (16 * p) r)) 0 l (omega (arith, wide))
        ∙ ap (λ s. get_or s l 0) row ∙ get_or-replicate 16 l x 0 (omega arith) ∙ same l (omega arith) ∙ sideways-at g p l k (omega arith) (omega arith)

    go : (k : ℕ) → k < 16 * p + 16 → get_or (take (16 * p) r ++ (ys ++ drop m (drop (16 * p) r))) k 0 ≡ sideways g k
    go k h = elim (dec_lt k (16 * p)) [ yes below ↦ before k below | no above ↦ here k (omega arith) h ]

pub rows_end : {r : List ℕ} {p : ℕ} {g : ℕ → List ℕ} → Rows r p 0 g → 16 ≤ p → ((l : ℕ) → length (g l) ≡ 16) → Lanes r g
rows_end {r} {p} {g} rows h size = lanes r g size (done rows.so_far (omega arith))

-- ---- a block at a time

-- What stands at place k where the blocks stand one after the other.
unfoldable pub upright : (ℕ → List ℕ) → ℕ → ℕ
upright g k = get_or (g (k / 16)) (k % 16) 0

upright-at : (g : ℕ → List ℕ) (p l k : ℕ) → p < 16 → 16 * l + p ≡ k → get_or (g l) p 0 ≡ upright g k
unfolding upright
upright-at g p l k h e =
    let block : l ≡ k / 16 = omega arith in
    let byte : p ≡ k % 16 = omega arith in
    λ z. get_or (g (block z)) (byte z) 0

-- The blocks before l are written, and of block l the first p bytes.
pub record Pieces (r : List ℕ) (l p : ℕ) (g : ℕ → List ℕ) : Type 0 where
  pub within : p ≤ 16
  pub so_far : Filling 256 r (16 * l + p) (upright g)

pub piece_more : {r : List ℕ} {l p : ℕ} {g : ℕ → List ℕ} {v : ℕ} → Pieces r l p g → l < 16 → p < 16 → v ≡ get_or (g l) p 0 → Pieces (set r (16 * l + p) v) l (p + 1) g
piece_more {r} {l} {p} {g} {v} pieces hl hp e =
    record {
      within = omega arith;
      so_far = counted (omega arith) (more pieces.so_far (omega arith) (e ∙ upright-at g p l (16 * l + p) hp refl));
    }

pub pieces_end : {r : List ℕ} {l : ℕ} {g : ℕ → List ℕ} → Pieces r l 0 g → 16 ≤ l → ((k : ℕ) → length (g k) ≡ 16) → Blocks r g
unfolding part
pieces_end {r} {l} {g} pieces h size =
    let all : r ≡ tab 256 (upright g) = done pieces.so_far (omega arith) in
    record {
      each =
          λ k hk.
          sym
          (list_is_tab 16 (g k) (λ p. get_or r (16 * k + p) 0) (size k)
          (λ p q.
          upright-at g p k (16 * k + p) q refl
          ∙ sym (tab-at 256 (upright g) (16 * k + p) (omega arith))
          ∙ ap (λ x. get_or x (16 * k + p) 0) (sym all)));
    }

-- ---- four rows, those of a column, at a time

-- The columns before c are written, and of column c the first l blocks.
pub record Columns (r : List ℕ) (c l : ℕ) (g : ℕ → List ℕ) : Type 0 where
  pub within : l ≤ 16
  pub long : length r ≡ 256
  pub filled : (k : ℕ) → k < 64 * c + 64 → (64 * c ≤ k → k % 16 < l) → get_or r k 0 ≡ sideways g k

put : (r : List ℕ) (i v k : ℕ) (f : ℕ → ℕ) → i < length r → v ≡ f i → ((k ≡ i → ⊥) → get_or r k 0 ≡ f k) → get_or (set r i v) k 0 ≡ f k
put r i v k f h e other =
    elim (ℕ_discrete k i) [
      | yes same ↦ subst (λ (m : ℕ). get_or (set r i v) m 0 ≡ f m) (sym same) (get_or-set_same r i v 0 h ∙ e)
      | no differ ↦ get_or-set_other r i k v 0 differ ∙ other differ
    ]

not_this : (c l k : ℕ) → l < 16 → k < 64 * c + 64 → 64 * c ≤ k → k % 16 < l + 1 → (k ≡ 64 * c + l → ⊥) → (k ≡ 64 * c + l + 16 → ⊥)
    → (k ≡ 64 * c + l + 32 → ⊥) → (k ≡ 64 * c + l + 48 → ⊥) → k % 16 < l
not_this c l k hl hk from so n0 n1 n2 n3 = omega arith

four : (r : List ℕ) (c l v0 v1 v2 v3 : ℕ) (g : ℕ → List ℕ) → Columns r c l g → c < 4 → l < 16 → v0 ≡ sideways g (64 * c + l)
    → v1 ≡ sideways g (64 * c + l + 16) → v2 ≡ sideways g (64 * c + l + 32) → v3 ≡ sideways g (64 * c + l + 48)
    → Columns (set (set (set (set r (64 * c + l) v0) (64 * c + l + 16) v1) (64 * c + l + 32) v2) (64 * c + l + 48) v3) c (l + 1) g
four r c l v0 v1 v2 v3 g so hc hl e0 e1 e2 e3 =
    let long : length r ≡ 256 = so.long in
    record {
      within = omega arith;
      long = simp length-set so.long;
      filled =
          λ k h q.
          put (set (set (set r (64 * c + l) v0) (64 * c + l + 16) v1) (64 * c + l + 32) v2) (64 * c + l + 48) v3 k (sideways g) (simp length-set (omega arith)) e3
          (λ n3.
          put (set (set r (64 * c + l) v0) (64 * c + l + 16) v1) (64 * c + l + 32) v2 k (sideways g) (simp length-set (omega arith)) e2
          (λ n2.
          put (set r (64 * c + l) v0) (64 * c + l + 16) v1 k (sideways g) (simp length-set (omega arith)) e1
          (λ n1.
          put r (64 * c + l) v0 k (sideways g) (omega arith) e0
          (λ n0. so.filled k h (λ from. not_this c l k hl h from (q from) n0 n1 n2 n3)))));
    }

pub columns_end : {r : List ℕ} {c : ℕ} {g : ℕ → List ℕ} → Columns r c 0 g → 4 ≤ c → ((l : ℕ) → length (g l) ≡ 16) → Lanes r g
columns_end {r} {c} {g} so h size =
    lanes r g size
    (list_is_tab 256 r (sideways g) so.long (λ k q. so.filled k (omega arith) (λ from. let z : ⊥ = omega arith in absurd z)))

-- ---- a block at a time, its bytes in their rows

-- The blocks before l are written, and of block l the first p bytes.
pub record Strands (r : List ℕ) (l p : ℕ) (g : ℕ → List ℕ) : Type 0 where
  pub long : length r ≡ 256
  pub within : p ≤ 16
  pub filled : (k : ℕ) → k < 256 → 16 * (k % 16) + k / 16 < 16 * l + p → get_or r k 0 ≡ sideways g k

pub strand_more : {r : List ℕ} {l p : ℕ} {g : ℕ → List ℕ} {v : ℕ} → Strands r l p g → l < 16 → p < 16 → v ≡ get_or (g l) p 0 → Strands (set r (16 * p + l) v) l (p + 1) g
strand_more {r} {l} {p} {g} {v} so hl hp e =
    let long : length r ≡ 256 = so.long in
    record {
      long = length-set r (16 * p + l) v ∙ so.long;
      within = omega arith;
      filled =
          λ k h q.
          put r (16 * p + l) v k (sideways g) (omega arith) (e ∙ sideways-at g p l (16 * p + l) hl refl)
          (λ other. so.filled k h (not_that l p k hl hp h q other));
    }
  where
    not_that : (l p k : ℕ) → l < 16 → p < 16 → k < 256 → 16 * (k % 16) + k / 16 < 16 * l + (p + 1) → (k ≡ 16 * p + l → ⊥) → 16 * (k % 16) + k / 16 < 16 * l + p
    not_that l p k hl hp h q other = omega arith

pub strands_end : {r : List ℕ} {l : ℕ} {g : ℕ → List ℕ} → Strands r l 0 g → 16 ≤ l → ((k : ℕ) → length (g k) ≡ 16) → Lanes r g
strands_end {r} {l} {g} so h size = lanes r g size (list_is_tab 256 r (sideways g) so.long (λ k q. so.filled k q (omega arith)))

-- ---- the steps of the cipher in one block

-- The counter's bytes, as std writes them.
pub counter_bytes : (j : ℕ) → to_be_bytes w128 j ≡ counter j
unfolding counter tab
counter_bytes j =
    let last : j % 256 ≡ j / 1 % 256 = omega arith in
    λ z.
    j / 2 ^ 120 % 256 ∷ j / 2 ^ 112 % 256 ∷ j / 2 ^ 104 % 256 ∷ j / 2 ^ 96 % 256 ∷ j / 2 ^ 88 % 256 ∷ j / 2 ^ 80 % 256 ∷ j / 2 ^ 72 % 256 ∷ j / 2 ^ 64 % 256
    ∷ j / 2 ^ 56 % 256 ∷ j / 2 ^ 48 % 256 ∷ j / 2 ^ 40 % 256 ∷ j / 2 ^ 32 % 256 ∷ j / 2 ^ 24 % 256 ∷ j / 2 ^ 16 % 256 ∷ j / 2 ^ 8 % 256 ∷ last z ∷ []

pub counter_at : (j p : ℕ) → p < 16 → j / 2 ^ (8 * (15 - p)) % 256 ≡ get_or (counter j) p 0
unfolding counter
counter_at j p h = sym (tab-at 16 (λ i. j / 2 ^ (8 * (15 - i)) % 256) p h)

pub counter_size : (j : ℕ) → length (counter j) ≡ 16
unfolding counter
counter_size j = tab-length 16 (λ i. j / 2 ^ (8 * (15 - i)) % 256)

pub key_size : (w s : List ℕ) (n : ℕ) → length (add_key w n s) ≡ 16
unfolding add_key
key_size w s n = tab-length 16 (λ i. bit_xor (get_or s i 0) (get_or w (16 * n + i) 0))

key_at : (w s : List ℕ) (n p q : ℕ) → p < 16 → 16 * n + p ≡ q → bit_xor (get_or s p 0) (get_or w q 0) ≡ get_or (add_key w n s) p 0
unfolding add_key
key_at w s n p q h e =
    ap (λ k. bit_xor (get_or s p 0) (get_or w k 0)) (sym e) ∙ sym (tab-at 16 (λ i. bit_xor (get_or s i 0) (get_or w (16 * n + i) 0)) p h)

pub key_value : (w s : List ℕ) (n p l : ℕ) → p < 16 → bit_xor (get_or s (16 * p + l) 0) (get_or w (16 * n + p) 0) ≡ get_or (add_key w n (lane s l)) p 0
key_value w s n p l h =
    ap (λ x. bit_xor x (get_or w (16 * n + p) 0)) (sym (lane-at s l p (16 * p + l) h refl)) ∙ key_at w (lane s l) n p (16 * n + p) h refl

pub sub_size : (s : List ℕ) → length (shift_rows s) ≡ 16
unfolding shift_rows
sub_size s = tab-length 16 (λ i. get_or s (i % 4 + 4 * ((i / 4 + i % 4) % 4)) 0)

pub sub_value : (s : List ℕ) (p l x : ℕ) → p < 16 → x ≡ sbox_of (get_or s (16 * ((p + 4 * (p % 4)) % 16) + l) 0)
    → x ≡ get_or (shift_rows (sub_bytes (lane s l))) p 0
sub_value s p l x h e =
    let place : (p + 4 * (p % 4)) % 16 < 16 = omega arith in
    e
    ∙ ap sbox_of (sym (lane-at s l ((p + 4 * (p % 4)) % 16) (16 * ((p + 4 * (p % 4)) % 16) + l) place refl))
    ∙ sym (sub_shift_at (lane s l) p h)

-- A byte that is the same in each block.
pub flat_value : (s : List ℕ) (p l x : ℕ) → p < 16 → l < 16 → Flat s ((p + 4 * (p % 4)) % 16) → x ≡ sbox_of (get_or s (16 * ((p + 4 * (p % 4)) % 16)) 0)
    → x ≡ get_or (shift_rows (sub_bytes (lane s l))) p 0
flat_value s p l x h hl flat e =
    let from = (p + 4 * (p % 4)) % 16 in
    let place : from < 16 = omega arith in
    e
    ∙ ap sbox_of (sym (lane-at s 0 from (16 * from) place (omega arith)) ∙ sym (flat.equal l hl))
    ∙ sym (sub_shift_at (lane s l) p h)

pub last_value : (w s : List ℕ) (p l x : ℕ) → p < 16 → x ≡ sbox_of (get_or s (16 * ((p + 4 * (p % 4)) % 16) + l) 0)
    → bit_xor x (get_or w (160 + p) 0) ≡ get_or (add_key w 10 (shift_rows (sub_bytes (lane s l)))) p 0
last_value w s p l x h e =
    ap (λ y. bit_xor y (get_or w (160 + p) 0)) (sub_value s p l x h e) ∙ key_at w (shift_rows (sub_bytes (lane s l))) 10 p (160 + p) h (omega arith)

module _ (s : List ℕ) (c l : ℕ) (h : c < 4) where
  byte : (p q : ℕ) → p < 16 → 16 * p + l ≡ q → get_or s q 0 ≡ get_or (lane s l) p 0
  byte p q k e = sym (lane-at s l p q k e)

  column : Column (mix_columns (lane s l)) (4 * c) (get_or s (64 * c + l) 0) (get_or s (64 * c + l + 16) 0) (get_or s (64 * c + l + 32) 0) (get_or s (64 * c + l + 48) 0)
  column =
      mixed (lane s l) c (get_or s (64 * c + l) 0) (get_or s (64 * c + l + 16) 0) (get_or s (64 * c + l + 32) 0) (get_or s (64 * c + l + 48) 0) h
      (byte (4 * c) (64 * c + l) (omega arith) (omega arith))
      (byte (4 * c + 1) (64 * c + l + 16) (omega arith) (omega arith))
      (byte (4 * c + 2) (64 * c + l + 32) (omega arith) (omega arith))
      (byte (4 * c + 3) (64 * c + l + 48) (omega arith) (omega arith))

-- Block l of column c is mixed, and the key added.
module _ (w s r : List ℕ) (n c l m0 m1 m2 m3 : ℕ) (hc : c < 4) (hl : l < 16) where
  value : (m p q k : ℕ) → p < 16 → 16 * n + p ≡ q → 16 * p + l ≡ k → m ≡ get_or (mix_columns (lane s l)) p 0 → bit_xor m (get_or w q 0) ≡ sideways (λ x. add_key w n (mix_columns (lane s x))) k
  value m p q k hp eq ek e =
      ap (λ x. bit_xor x (get_or w q 0)) e
      ∙ key_at w (mix_columns (lane s l)) n p q hp eq
      ∙ sideways-at (λ x. add_key w n (mix_columns (lane s x))) p l k hl ek

  pub column-more : m0 ≡ mix_byte (get_or s (64 * c + l) 0) (get_or s (64 * c + l + 16) 0) (get_or s (64 * c + l + 32) 0) (get_or s (64 * c + l + 48) 0)
      → m1 ≡ mix_byte (get_or s (64 * c + l + 16) 0) (get_or s (64 * c + l + 32) 0) (get_or s (64 * c + l + 48) 0) (get_or s (64 * c + l) 0)
      → m2 ≡ mix_byte (get_or s (64 * c + l + 32) 0) (get_or s (64 * c + l + 48) 0) (get_or s (64 * c + l) 0) (get_or s (64 * c + l + 16) 0)
      → m3 ≡ mix_byte (get_or s (64 * c + l + 48) 0) (get_or s (64 * c + l) 0) (get_or s (64 * c + l + 16) 0) (get_or s (64 * c + l + 32) 0)
      → Columns r c l (λ k. add_key w n (mix_columns (lane s k)))
      → Columns
      (set
      (set
      (set (set r (64 * c + l) (bit_xor m0 (get_or w (16 * n + 4 * c) 0))) (64 * c + l + 16) (bit_xor m1 (get_or w (16 * n + (4 * c + 1)) 0)))
      (64 * c + l + 32)
      (bit_xor m2 (get_or w (16 * n + (4 * c + 2)) 0)))
      (64 * c + l + 48)
      (bit_xor m3 (get_or w (16 * n + (4 * c + 3)) 0)))
      c
      (l + 1)
      (λ k. add_key w n (mix_columns (lane s k)))
  column-more e0 e1 e2 e3 so =
      let col = column s c l hc in
      four r c l
      (bit_xor m0 (get_or w (16 * n + 4 * c) 0))
      (bit_xor m1 (get_or w (16 * n + (4 * c + 1)) 0))
      (bit_xor m2 (get_or w (16 * n + (4 * c + 2)) 0))
      (bit_xor m3 (get_or w (16 * n + (4 * c + 3)) 0))
      (λ k. add_key w n (mix_columns (lane s k)))
      so hc hl
      (value m0 (4 * c) (16 * n + 4 * c) (64 * c + l) (omega arith) refl (omega arith) (e0 ∙ col.first))
      (value m1 (4 * c + 1) (16 * n + (4 * c + 1)) (64 * c + l + 16) (omega arith) refl (omega arith) (e1 ∙ col.second))
      (value m2 (4 * c + 2) (16 * n + (4 * c + 2)) (64 * c + l + 32) (omega arith) (omega arith) (omega arith) (e2 ∙ col.third))
      (value m3 (4 * c + 3) (16 * n + (4 * c + 3)) (64 * c + l + 48) (omega arith) (omega arith) (omega arith) (e3 ∙ col.fourth))

-- ---- blocks that differ in few bytes

high_same : (j l p : ℕ) → j % 256 < 241 → l < 16 → p < 15 → (j + l) / 2 ^ (8 * (15 - p)) ≡ (j + 0) / 2 ^ (8 * (15 - p))
high_same j l p hj hl hp =
    let split : 8 * (15 - p) ≡ 8 + 8 * (14 - p) = omega arith in
    let whole : (j + l) / 256 ≡ (j + 0) / 256 = omega arith in
    rw (split, pow-add 2 8 (8 * (14 - p)), ← div-div-eq-div-mul (j + l) 256 (2 ^ (8 * (14 - p))), ← div-div-eq-div-mul (j + 0) 256 (2 ^ (8 * (14 - p))), whole)

pub flat_counters : (s : List ℕ) (j : ℕ) → Lanes s (λ l. counter (j + l)) → j % 256 < 241 → (p : ℕ) → p < 15 → Flat s p
flat_counters s j so hj p h =
    record {
      equal =
          λ l hl.
          ap (λ x. get_or x p 0) (so.each l hl)
          ∙ sym (counter_at (j + l) p (omega arith))
          ∙ ap (λ x. x % 256) (high_same j l p hj hl h)
          ∙ counter_at (j + 0) p (omega arith)
          ∙ ap (λ x. get_or x p 0) (sym (so.each 0 (omega arith)));
    }

pub flat_key : (w s u : List ℕ) → Lanes u (λ l. add_key w 0 (lane s l)) → ((p : ℕ) → p < 15 → Flat s p) → (p : ℕ) → p < 15 → Flat u p
flat_key w s u so flat p h =
    record {
      equal =
          λ l hl.
          ap (λ x. get_or x p 0) (so.each l hl)
          ∙ sym (key_at w (lane s l) 0 p (16 * 0 + p) (omega arith) refl)
          ∙ ap (λ x. bit_xor x (get_or w (16 * 0 + p) 0)) ((flat p h).equal l hl)
          ∙ key_at w (lane s 0) 0 p (16 * 0 + p) (omega arith) refl
          ∙ ap (λ x. get_or x p 0) (sym (so.each 0 (omega arith)));
    }

-- After a round of blocks that differ in byte 15 only, they differ in the bytes 0 to 3 only.
module _ (w u x : List ℕ) (n : ℕ) (round : Lanes x (λ l. add_key w n (mix_columns (shift_rows (sub_bytes (lane u l)))))) (flat : (p : ℕ) → p < 15 → Flat u p) where
  shifted : (p l : ℕ) → 4 ≤ p → p < 16 → l < 16 → get_or (shift_rows (sub_bytes (lane u l))) p 0 ≡ get_or (shift_rows (sub_bytes (lane u 0))) p 0
  shifted p l low h hl =
      sub_shift_at (lane u l) p h ∙ ap sbox_of ((flat ((p + 4 * (p % 4)) % 16) (omega arith)).equal l hl) ∙ sym (sub_shift_at (lane u 0) p h)

  mixes : (p l : ℕ) → 4 ≤ p → p < 16 → l < 16
      → get_or (mix_columns (shift_rows (sub_bytes (lane u l)))) p 0 ≡ get_or (mix_columns (shift_rows (sub_bytes (lane u 0)))) p 0
  mixes p l low h hl =
      let a = p % 4 + 4 * (p / 4) in
      let b = (p + 1) % 4 + 4 * (p / 4) in
      let d = (p + 2) % 4 + 4 * (p / 4) in
      let e = (p + 3) % 4 + 4 * (p / 4) in
      mix_at (shift_rows (sub_bytes (lane u l))) p a b d e h refl refl refl refl
      ∙ (λ z.
      mix_byte
      (shifted a l (omega arith) (omega arith) hl z)
      (shifted b l (omega arith) (omega arith) hl z)
      (shifted d l (omega arith) (omega arith) hl z)
      (shifted e l (omega arith) (omega arith) hl z))
      ∙ sym (mix_at (shift_rows (sub_bytes (lane u 0))) p a b d e h refl refl refl refl)

  pub flat_round : (p : ℕ) → 4 ≤ p → p < 16 → Flat x p
  flat_round p low h =
      record {
        equal =
            λ l hl.
            ap (λ y. get_or y p 0) (round.each l hl)
            ∙ sym (key_at w (mix_columns (shift_rows (sub_bytes (lane u l)))) n p (16 * n + p) h refl)
            ∙ ap (λ y. bit_xor y (get_or w (16 * n + p) 0)) (mixes p l low h hl)
            ∙ key_at w (mix_columns (shift_rows (sub_bytes (lane u 0)))) n p (16 * n + p) h refl
            ∙ ap (λ y. get_or y p 0) (sym (round.each 0 (omega arith)));
      }

-- ---- the rounds

pub one_round : (w u : List ℕ) {r : List ℕ} (n : ℕ) (s : ℕ → List ℕ) → Lanes u (λ l. rounds w n (s l))
    → Lanes r (λ l. add_key w (n + 1) (mix_columns (shift_rows (sub_bytes (lane u l))))) → Lanes r (λ l. rounds w (n + 1) (s l))
unfolding rounds
one_round w u n s before round =
    record {
      long = round.long;
      each =
          λ l h. rw (add-one n) (round.each l h ∙ ap (λ x. add_key w (n + 1) (mix_columns (shift_rows (sub_bytes x)))) (before.each l h));
    }

pub no_rounds : (w u : List ℕ) → length u ≡ 256 → Lanes u (λ l. rounds w 0 (lane u l))
unfolding rounds
no_rounds w u long = record { long = long; each = λ l h. refl }

-- After the nine rounds of keyed blocks the last round is left.
pub nine : (w u x : List ℕ) (s : ℕ → List ℕ) → Lanes u (λ l. add_key w 0 (s l)) → Lanes x (λ l. rounds w 9 (lane u l)) → (l : ℕ) → l < 16
    → add_key w 10 (shift_rows (sub_bytes (lane x l))) ≡ cipher w (s l)
unfolding cipher
nine w u x s keyed rounded l h =
    ap (λ y. add_key w 10 (shift_rows (sub_bytes y))) (rounded.each l h ∙ ap (rounds w 9) (keyed.each l h))
