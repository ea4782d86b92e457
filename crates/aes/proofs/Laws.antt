-- What the fused rounds and the key schedule need of the definitions, byte by byte.
-- Assumes nothing.
use Rattle.std.proofs.Common.{◌≡◌, refl, sym, ap, ◌∙◌, List, [], ◌∷◌, ◌++◌, append_assoc, ℕ, zero, suc, ◌+◌, ◌*◌, ◌-◌, ◌/◌, ◌%◌, ◌≤◌, ◌<◌, add-one, subst, arith, length, get_or, take, bit_xor, length-append, eq-eqb, ne_eqb, drop, length-drop, take_at, get_or-take, length-take-le}
use Rattle.std.specs.Int.Bits.{xor_zero_r}
use Rattle.std.proofs.Math.ListN.{get_or-append}
use Rattle.std.proofs.lemmas.List.{get_or-append-add}
use Rattle.std.proofs.Math.Decide.{dec_lt}
use denote.Param.Members.{Mut, Called}
use Rattle.std.specs.Array.{IsFromFnResult, IsFromFnResultFrom}
use Rattle.lists.specs.Tab.{tab, tab-at, tab-length, tab_ext, list_is_tab}
use Rattle.sbox.specs.Sbox.{sbox_of}
use Rattle.aes.specs.Fips197.{at, sub_bytes, shift_rows, mix_byte, mix_columns, word, xor_word, rot_word, sub_word, x_power, rcon, temp, words}

sub_at : (s : List ℕ) (i j : ℕ) → i < 16 → i ≡ j → get_or (sub_bytes s) i 0 ≡ sbox_of (get_or s j 0)
unfolding sub_bytes
sub_at s i j h e = tab-at 16 (λ k. sbox_of (get_or s k 0)) i h ∙ ap (λ k. sbox_of (get_or s k 0)) e

-- SubBytes and ShiftRows together.
pub sub_shift_at : (s : List ℕ) (i : ℕ) → i < 16 → get_or (shift_rows (sub_bytes s)) i 0 ≡ sbox_of (get_or s ((i + 4 * (i % 4)) % 16) 0)
unfolding shift_rows
sub_shift_at s i h =
    tab-at 16 (λ k. at (sub_bytes s) (k % 4) ((k / 4 + k % 4) % 4)) i h
    ∙ sub_at s (i % 4 + 4 * ((i / 4 + i % 4) % 4)) ((i + 4 * (i % 4)) % 16) (omega arith) (omega arith)

sub_shift : (s : List ℕ) (i j : ℕ) → i < 16 → (i + 4 * (i % 4)) % 16 ≡ j → get_or (shift_rows (sub_bytes s)) i 0 ≡ sbox_of (get_or s j 0)
sub_shift s i j h e = sub_shift_at s i h ∙ ap (λ k. sbox_of (get_or s k 0)) e

pub mix_at : (s : List ℕ) (i a b c d : ℕ) → i < 16 → i % 4 + 4 * (i / 4) ≡ a → (i + 1) % 4 + 4 * (i / 4) ≡ b
    → (i + 2) % 4 + 4 * (i / 4) ≡ c → (i + 3) % 4 + 4 * (i / 4) ≡ d
    → get_or (mix_columns s) i 0 ≡ mix_byte (get_or s a 0) (get_or s b 0) (get_or s c 0) (get_or s d 0)
unfolding mix_columns
mix_at s i a b c d h ea eb ec ed =
    tab-at 16
    (λ k.
    mix_byte (at s (k % 4) (k / 4)) (at s ((k + 1) % 4) (k / 4)) (at s ((k + 2) % 4) (k / 4)) (at s ((k + 3) % 4) (k / 4)))
    i h
    ∙ (λ z. mix_byte (get_or s (ea z) 0) (get_or s (eb z) 0) (get_or s (ec z) 0) (get_or s (ed z) 0))

-- The column of m from place i on is that of a, b, d, e, mixed.
pub record Column (m : List ℕ) (i a b d e : ℕ) : Type 0 where
  pub first : mix_byte a b d e ≡ get_or m i 0
  pub second : mix_byte b d e a ≡ get_or m (i + 1) 0
  pub third : mix_byte d e a b ≡ get_or m (i + 2) 0
  pub fourth : mix_byte e a b d ≡ get_or m (i + 3) 0

module _ (y : List ℕ) (c a b d e : ℕ) (h : c < 4) (ha : a ≡ get_or y (4 * c) 0) (hb : b ≡ get_or y (4 * c + 1) 0)
    (hd : d ≡ get_or y (4 * c + 2) 0) (he : e ≡ get_or y (4 * c + 3) 0) where
  pub mixed : Column (mix_columns y) (4 * c) a b d e
  mixed =
      record {
        first =
            (λ z. mix_byte (ha z) (hb z) (hd z) (he z))
            ∙ sym (mix_at y (4 * c) (4 * c) (4 * c + 1) (4 * c + 2) (4 * c + 3) (omega arith) (omega arith) (omega arith) (omega arith) (omega arith));
        second =
            (λ z. mix_byte (hb z) (hd z) (he z) (ha z))
            ∙ sym (mix_at y (4 * c + 1) (4 * c + 1) (4 * c + 2) (4 * c + 3) (4 * c) (omega arith) (omega arith) (omega arith) (omega arith) (omega arith));
        third =
            (λ z. mix_byte (hd z) (he z) (ha z) (hb z))
            ∙ sym (mix_at y (4 * c + 2) (4 * c + 2) (4 * c + 3) (4 * c) (4 * c + 1) (omega arith) (omega arith) (omega arith) (omega arith) (omega arith));
        fourth =
            (λ z. mix_byte (he z) (ha z) (hb z) (hd z))
            ∙ sym (mix_at y (4 * c + 3) (4 * c + 3) (4 * c) (4 * c + 1) (4 * c + 2) (omega arith) (omega arith) (omega arith) (omega arith) (omega arith));
      }

-- Column c of MixColumns, ShiftRows and SubBytes together.
pub column : (s : List ℕ) (c a b d e : ℕ) → c < 4 → a ≡ sbox_of (get_or s (4 * c) 0) → b ≡ sbox_of (get_or s ((4 * c + 5) % 16) 0)
    → d ≡ sbox_of (get_or s ((4 * c + 10) % 16) 0) → e ≡ sbox_of (get_or s ((4 * c + 15) % 16) 0)
    → Column (mix_columns (shift_rows (sub_bytes s))) (4 * c) a b d e
column s c a b d e h ha hb hd he =
    mixed (shift_rows (sub_bytes s)) c a b d e h
    (ha ∙ sym (sub_shift s (4 * c) (4 * c) (omega arith) (omega arith)))
    (hb ∙ sym (sub_shift s (4 * c + 1) ((4 * c + 5) % 16) (omega arith) (omega arith)))
    (hd ∙ sym (sub_shift s (4 * c + 2) ((4 * c + 10) % 16) (omega arith) (omega arith)))
    (he ∙ sym (sub_shift s (4 * c + 3) ((4 * c + 15) % 16) (omega arith) (omega arith)))

-- A word that is turned.
pub turned_word : (a : List ℕ) (j x0 x1 x2 x3 p : ℕ) → x0 ≡ sbox_of (get_or a 0 0) → x1 ≡ sbox_of (get_or a 1 0) → x2 ≡ sbox_of (get_or a 2 0)
    → x3 ≡ sbox_of (get_or a 3 0) → p ≡ x_power j → bit_xor x1 p ∷ x2 ∷ x3 ∷ x0 ∷ [] ≡ xor_word (sub_word (rot_word a)) (rcon (j + 1))
unfolding xor_word sub_word rot_word rcon tab
turned_word a j x0 x1 x2 x3 p e0 e1 e2 e3 e =
    let one : j ≡ j + 1 - 1 = omega arith in
    λ z.
    bit_xor (e1 z) ((e ∙ ap x_power one) z)
    ∷ (e2 ∙ sym (xor_zero_r (sbox_of (get_or a 2 0)))) z
    ∷ (e3 ∙ sym (xor_zero_r (sbox_of (get_or a 3 0)))) z
    ∷ (e0 ∙ sym (xor_zero_r (sbox_of (get_or a 0 0)))) z
    ∷ []

-- temp of word 4 r + k + 4, from that word that came before it.
pub temp_is : (w t : List ℕ) (r k : ℕ) → k < 4 → (k ≡ 0 → t ≡ xor_word (sub_word (rot_word (word w (4 * r + 3)))) (rcon (r + 1)))
    → (0 < k → t ≡ word w (4 * r + k + 3)) → t ≡ temp w (4 * r + k + 4)
unfolding temp
temp_is w t r zero h first later =
    let divides : (4 * r + 0 + 4) % 4 ≡ 0 = omega arith in
    let before : 4 * r + 3 ≡ 4 * r + 0 + 4 - 1 = omega arith in
    let count : r + 1 ≡ (4 * r + 0 + 4) / 4 = omega arith in
    rw (eq-eqb ((4 * r + 0 + 4) % 4) 0 divides)
    (first refl ∙ (λ z. xor_word (sub_word (rot_word (word w (before z)))) (rcon (count z))))
temp_is w t r (suc k) h first later =
    let no : (4 * r + suc k + 4) % 4 ≡ 0 → ⊥ = λ e. omega arith in
    let before : 4 * r + suc k + 3 ≡ 4 * r + suc k + 4 - 1 = omega arith in
    rw (ne_eqb ((4 * r + suc k + 4) % 4) 0 no)
    (later (omega arith) ∙ ap (word w) before)

word-take : (w : List ℕ) (m i : ℕ) → 4 * i + 4 ≤ m → word (take m w) i ≡ word w i
unfolding word
word-take w m i h =
    tab_ext 4 (λ j. get_or (take m w) (4 * i + j) 0) (λ j. get_or w (4 * i + j) 0) (λ j k. get_or-take m w (4 * i + j) 0 (omega arith))

temp-take : (w : List ℕ) (m i : ℕ) → 4 * (i - 1) + 4 ≤ m → temp (take m w) i ≡ temp w i
unfolding temp
temp-take w m i h = rw (word-take w m (i - 1) h)

-- The key is stored.
pub key_stored : (key x rest : List ℕ) → x ≡ key → length x ≡ 16 → take (16 + 4 * 0) (x ++ rest) ≡ words 0 key
unfolding words
key_stored key x rest same long = take_at x rest 16 long ∙ same

pub stored_long : (w x : List ℕ) (k m : ℕ) → k + m ≤ length w → length x ≡ m → length (take k w ++ (x ++ drop m (drop k w))) ≡ length w
stored_long w x k m h e = simp (length-append, length-drop) (omega (arith, length-take-le k w (omega arith)))

-- The same, the count of words written another way.
pub recounted : (w key : List ℕ) (n m : ℕ) → n ≡ m → take (16 + 4 * n) w ≡ words n key → take (16 + 4 * m) w ≡ words m key
recounted w key n m e so = subst (λ (k : ℕ). take (16 + 4 * k) w ≡ words k key) e so

-- The word that was stored.
pub word_stored : (w x rest : List ℕ) (n i : ℕ) → 16 + 4 * n ≤ length w → length x ≡ 4 → 4 * i ≡ 16 + 4 * n → x ≡ word (take (16 + 4 * n) w ++ (x ++ rest)) i
unfolding word
word_stored w x rest n i long four e =
    let k = 16 + 4 * n in
    list_is_tab 4 x (λ j. get_or (take k w ++ (x ++ rest)) (4 * i + j) 0) four
    (λ j h.
    let place : 4 * i + j ≡ length (take k w) + j = omega (arith, length-take-le k w long) in
    sym
    (ap (λ p. get_or (take k w ++ (x ++ rest)) p 0) place
    ∙ get_or-append-add (take k w) (x ++ rest) j 0
    ∙ get_or-append x rest 0 j (omega arith)))

-- One more word of the key schedule is stored.
pub next_word : (w key x rest : List ℕ) (n : ℕ) → 16 + 4 * n ≤ length w → take (16 + 4 * n) w ≡ words n key → x ≡ xor_word (word w n) (temp w (n + 4))
    → take (16 + 4 * (n + 1)) (take (16 + 4 * n) w ++ (x ++ rest)) ≡ words (n + 1) key
unfolding words xor_word
next_word w key x rest n long so e =
    let k = 16 + 4 * n in
    let four : length x ≡ 4 = ap length e ∙ tab-length 4 _ in
    let front : length (take k w) ≡ k = length-take-le k w long in
    let last : word (words n key) n ≡ word w n = ap (λ l. word l n) (sym so) ∙ word-take w k n (omega arith) in
    let temps : temp (words n key) (n + 4) ≡ temp w (n + 4) = ap (λ l. temp l (n + 4)) (sym so) ∙ temp-take w k (n + 4) (omega arith) in
    rw (← append_assoc (take k w) x rest)
    (take_at (take k w ++ x) rest (16 + 4 * (n + 1)) (simp length-append (omega arith))
    ∙ rw (add-one n) (λ z. so z ++ (e ∙ (λ y. xor_word (sym last y) (sym temps y))) z))

-- What a call of h at each number below m makes, one after the other.
made_at : {F : Type 0} (g : Mut F (ℕ × Unit {0}) ℕ) (f : F) (h : ℕ → ℕ) (m : ℕ)
    → ((k y : ℕ) (q : F) → k < m → Called g f (k, tt) y q → (y ≡ h k) × (q ≡ f))
    → (n i : ℕ) (p : F) (ys : List ℕ) → p ≡ f → i + n ≡ m → IsFromFnResultFrom g p ys i n → (k : ℕ) → i ≤ k → k < m → get_or ys k 0 ≡ h k
made_at g f h m one zero i p ys e s r k a b = absurd (omega arith)
made_at {F} g f h m one (suc n) i p ys e s r k a b =
    let here = one i r.1 r.0 (omega arith) (subst (λ (u : F). Called g u (i, tt) r.1 r.0) e r.3) in
    elim (dec_lt i k) [
      | yes later ↦ made_at g f h m one n (i + 1) r.0 ys here.1 (omega arith) r.4 k (omega arith) b
      | no now ↦ let same : k ≡ i = omega arith in ap (λ j. get_or ys j 0) same ∙ r.2.1 0 ∙ here.0 ∙ ap h (sym same)
    ]

pub made : {F : Type 0} (g : Mut F (ℕ × Unit {0}) ℕ) (f : F) (h : ℕ → ℕ) (m : ℕ) (ys : List ℕ) → IsFromFnResult g f ys m
    → ((k y : ℕ) (q : F) → k < m → Called g f (k, tt) y q → (y ≡ h k) × (q ≡ f)) → ys ≡ tab m h
made g f h m ys r one = list_is_tab m ys h r.long (λ k b. made_at g f h m one m 0 f ys refl (omega arith) r.each k (omega arith) b)
