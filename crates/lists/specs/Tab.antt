-- Lists that are given entry by entry, and the loop that fills one in order.
-- Assumes nothing.
use Rattle.std.specs.Prelude.{◌≡◌, refl, List, [], ◌∷◌, ℕ, zero, suc, ◌+◌, ◌≤◌, ◌<◌, length, get_or, set}
use Rattle.std.proofs.Common.{sym, ap, ◌∙◌, subst, suc-le-suc, le_of_suc-le-suc, not-suc-le-zero, zero-lt-suc, lt_of_lt_of_le, arith, below_more, length-set, get_or-set_same, get_or-set_other, ext_get_or}

-- The n entries f 0, f 1, .., f (n - 1).
unfoldable pub tab : ℕ → (ℕ → ℕ) → List ℕ
tab zero f = []
tab (suc n) f = f 0 ∷ tab n (λ k. f (suc k))

pub tab-length : (n : ℕ) (f : ℕ → ℕ) → length (tab n f) ≡ n
unfolding tab
tab-length zero f = refl
tab-length (suc n) f = ap suc (tab-length n (λ k. f (suc k)))

pub tab-at : (n : ℕ) (f : ℕ → ℕ) (k : ℕ) → k < n → get_or (tab n f) k 0 ≡ f k
unfolding tab
tab-at zero f k h = absurd (not-suc-le-zero h)
tab-at (suc n) f zero h = refl
tab-at (suc n) f (suc k) h = tab-at n (λ j. f (suc j)) k (le_of_suc-le-suc h)

-- Rules that agree below n give the same list.
pub tab_ext : (n : ℕ) (f g : ℕ → ℕ) → ((k : ℕ) → k < n → f k ≡ g k) → tab n f ≡ tab n g
unfolding tab
tab_ext zero f g same = refl
tab_ext (suc n) f g same =
    λ i. same 0 (zero-lt-suc n) i ∷ tab_ext n (λ k. f (suc k)) (λ k. g (suc k)) (λ k h. same (suc k) (suc-le-suc h)) i

-- A list of n entries is `tab n f` where its entries are those of f.
pub list_is_tab : (n : ℕ) (xs : List ℕ) (f : ℕ → ℕ) → length xs ≡ n → ((k : ℕ) → k < n → get_or xs k 0 ≡ f k) → xs ≡ tab n f
list_is_tab n xs f long at =
    ext_get_or 0 xs (tab n f) (long ∙ sym (tab-length n f))
    (λ k h. let below : k < n = subst (λ (m : ℕ). k < m) long h in at k below ∙ sym (tab-at n f k below))

-- A list is the `tab` of its own entries.
pub list-tab : (xs : List ℕ) → xs ≡ tab (length xs) (λ k. get_or xs k 0)
list-tab xs = list_is_tab (length xs) xs (λ k. get_or xs k 0) refl (λ k h. refl)

-- The list r has n entries, of which the first i are those of f.
pub record Filling (n : ℕ) (r : List ℕ) (i : ℕ) (f : ℕ → ℕ) : Type 0 where
  pub long : length r ≡ n
  pub within : i ≤ n
  pub filled : (k : ℕ) → k < i → get_or r k 0 ≡ f k

pub start : {n : ℕ} (r : List ℕ) (f : ℕ → ℕ) → length r ≡ n → Filling n r 0 f
start r f long = record { long = long; within = omega arith; filled = λ k h. absurd (not-suc-le-zero h) }

-- The next entry is stored.
pub more : {n : ℕ} {r : List ℕ} {i : ℕ} {f : ℕ → ℕ} {v : ℕ} → Filling n r i f → i < n → v ≡ f i → Filling n (set r i v) (i + 1) f
more {n} {r} {i} {f} {v} so h e =
    record {
      long = length-set r i v ∙ so.long;
      within = omega arith;
      filled =
          below_more (λ k. get_or (set r i v) k 0 ≡ f k) i
          (λ k below. get_or-set_other r i k v 0 (λ same. let z : ⊥ = omega arith in z) ∙ so.filled k below)
          (get_or-set_same r i v 0 (subst (λ (m : ℕ). i < m) (sym so.long) h) ∙ e);
    }

-- The same, the count of entries written another way.
pub counted : {n : ℕ} {r : List ℕ} {i j : ℕ} {f : ℕ → ℕ} → i ≡ j → Filling n r i f → Filling n r j f
counted {n} {r} {i} {j} {f} e so = subst (λ (k : ℕ). Filling n r k f) e so

pub done : {n : ℕ} {r : List ℕ} {i : ℕ} {f : ℕ → ℕ} → Filling n r i f → n ≤ i → r ≡ tab n f
done {n} {r} {i} {f} so all = list_is_tab n r f so.long (λ k h. so.filled k (lt_of_lt_of_le h all))
