-- Joined lists give back what they were joined from, where the lengths agree.
-- Assumes nothing.
use Prim.Native.Nat.{ℕ, zero, suc, ◌<◌}
use Rattle.std.specs.Prelude.{◌≡◌, refl, List, ◌++◌, length, take, drop}
use Rattle.std.proofs.Common.{sym, ap, ◌∙◌, not-suc-le-zero, le_of_suc-le-suc, eq-or-lt_of_le, arith, take_at, drop_at}
use Rattle.std.proofs.Math.Path.{subst}
use Rattle.std.proofs.Math.Logic.{⊎_elim}
use Rattle.lists.specs.Index.{cat}
use Rattle.lists.specs.Bytes.{le4, rd4, nums}
use Rattle.lists.specs.CatLaws.{cat-lengths, le4-length, rd4-le4}

module _ {A : Type 0} where
  -- Equal joins of two lists, the first ones of one length.
  pub append_left : (a b c d : List A) → length a ≡ length c → a ++ b ≡ c ++ d → a ≡ c
  append_left a b c d long e =
      sym (take_at a b (length a) refl) ∙ ap (λ (l : List A). take (length a) l) e ∙ take_at c d (length a) (sym long)

  pub append_right : (a b c d : List A) → length a ≡ length c → a ++ b ≡ c ++ d → b ≡ d
  append_right a b c d long e =
      sym (drop_at a b (length a) refl) ∙ ap (λ (l : List A). drop (length a) l) e ∙ drop_at c d (length a) (sym long)

  -- Equal joins of n lists, whose lengths agree one by one.
  pub cat_inj : (n : ℕ) (f g : ℕ → List A) → ((i : ℕ) → i < n → length (f i) ≡ length (g i))
      → cat n f ≡ cat n g → (i : ℕ) → i < n → f i ≡ g i
  unfolding cat
  cat_inj zero f g long e i h = absurd (not-suc-le-zero h)
  cat_inj (suc n) f g long e i h =
      ⊎_elim
      (λ z. subst (λ (j : ℕ). f j ≡ g j) (sym z) (append_right (cat n f) (f n) (cat n g) (g n) (cat-lengths n f g (λ j l. long j (omega arith))) e))
      (λ l. cat_inj n f g (λ j k. long j (omega arith)) (append_left (cat n f) (f n) (cat n g) (g n) (cat-lengths n f g (λ j l. long j (omega arith))) e) i l)
      (eq-or-lt_of_le (le_of_suc-le-suc h))

-- Numbers below 2^32 with equal bytes.
pub le4_inj : {x y : ℕ} → x < 4294967296 → y < 4294967296 → le4 x ≡ le4 y → x ≡ y
le4_inj {x} {y} h k e = sym (rd4-le4 x h) ∙ ap rd4 e ∙ rd4-le4 y k

pub nums_inj : (n : ℕ) (f g : ℕ → ℕ) → ((i : ℕ) → i < n → f i < 4294967296) → ((i : ℕ) → i < n → g i < 4294967296)
    → nums n f ≡ nums n g → (i : ℕ) → i < n → f i ≡ g i
unfolding nums
nums_inj n f g hf hg e i h =
    le4_inj (hf i h) (hg i h)
    (cat_inj n (λ k. le4 (f k)) (λ k. le4 (g k)) (λ k l. le4-length (f k) ∙ sym (le4-length (g k))) e i h)
