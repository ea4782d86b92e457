-- Laws of what numbers/specs/Inverse.antt defines. Assumes nothing.
use Rattle.std.specs.Prelude.{ℕ, ◌*◌, ◌%◌, ◌<◌, ◌≤◌, ◌≡◌, refl, Bool, true, false, List, [], ◌∷◌, ◌⊎◌, eqb}
use Rattle.std.proofs.Common.{sym, ◌∙◌, subst, inl, inr, ⊎_elim, mod-eq_of_lt, arith, eqb-true, eq-eqb, ne_eqb}
use Rattle.lists.specs.Index.{pick, member}
use Rattle.numbers.specs.Mod.{Cong}
use Rattle.numbers.proofs.Mod.{cong_refl, cong_trans, cong_eq, cong_mul}
use Rattle.numbers.specs.Prime.{Prime}
use Rattle.numbers.proofs.Prime.{prime_257, prime_65537, prime_2147483647}
use Rattle.numbers.specs.Inverse.{Member, Each, qs, Ns, inverse_of}

pub member_split : {x y : ℕ} {l : List ℕ} → Member x (y ∷ l) → (x ≡ y) ⊎ Member x l
member_split {x} {y} {l} h = go (eqb x y) refl h.listed
  where
    go : (t : Bool) → eqb x y ≡ t → pick t true (member x l) ≡ true → (x ≡ y) ⊎ Member x l
    go true e k = inl (eqb-true x y e)
    go false e k = inr (record { listed = k })

-- A chain of tests for membership: at the element, past it, and at the last one.
pub member-found : {x y : ℕ} (l : List ℕ) → x ≡ y → true ≡ member x (y ∷ l)
member-found {x} {y} l e = rw (eq-eqb x y e, member)

pub member-passed : {x y : ℕ} (l : List ℕ) {t : Bool} → (x ≡ y → ⊥) → t ≡ member x l → t ≡ member x (y ∷ l)
member-passed {x} {y} l n h = rw (ne_eqb x y n, member) h

pub member-last : (x y : ℕ) → eqb x y ≡ member x (y ∷ [])
member-last x y = go (eqb x y)
  where
    go : (t : Bool) → t ≡ pick t true false
    go true = refl
    go false = refl

-- What holds of each element holds of a member: a table is proved row by row.
pub each : (P : ℕ → Type 0) {x : ℕ} (l : List ℕ) → Member x l → Each P l → P x
each P [] h t = absurd (let z : ◌≡◌ {A = ℕ} 0 1 = cc h.listed in omega arith)
each P {x} (y ∷ l) h t = ⊎_elim (λ e. subst P (sym e) t.0) (λ k. each P l k t.1) (member_split h)

pub q_prime : {q : ℕ} → Member q qs → Prime q
q_prime h = each Prime qs h (prime_257, (prime_65537, (prime_2147483647, tt)))

pub q_cases : {q : ℕ} → Member q qs → (q ≡ 257) ⊎ ((q ≡ 65537) ⊎ (q ≡ 2147483647))
q_cases {q} h = each (λ x. (x ≡ 257) ⊎ ((x ≡ 65537) ⊎ (x ≡ 2147483647))) qs h (inl refl, (inr (inl refl), (inr (inr refl), tt)))

pub parties_cases : {N : ℕ} → Member N Ns → (N ≡ 2) ⊎ ((N ≡ 4) ⊎ ((N ≡ 8) ⊎ ((N ≡ 16) ⊎ (N ≡ 32))))
parties_cases h =
    each (λ x. (x ≡ 2) ⊎ ((x ≡ 4) ⊎ ((x ≡ 8) ⊎ ((x ≡ 16) ⊎ (x ≡ 32))))) Ns h
    (inl refl, (inr (inl refl), (inr (inr (inl refl)), (inr (inr (inr (inl refl))), (inr (inr (inr (inr refl))), tt)))))

pub q_least : {q : ℕ} → Member q qs → 257 ≤ q
q_least h = each (λ q. 257 ≤ q) qs h (omega arith, (omega arith, (omega arith, tt)))

pub q_most : {q : ℕ} → Member q qs → q ≤ 2147483647
q_most h = each (λ q. q ≤ 2147483647) qs h (omega arith, (omega arith, (omega arith, tt)))

pub q_positive : {q : ℕ} → Member q qs → 0 < q
q_positive h = omega (arith, q_least h)

pub parties_least : {N : ℕ} → Member N Ns → 2 ≤ N
parties_least h = each (λ N. 2 ≤ N) Ns h (omega arith, (omega arith, (omega arith, (omega arith, (omega arith, tt)))))

pub parties_most : {N : ℕ} → Member N Ns → N ≤ 32
parties_most h = each (λ N. N ≤ 32) Ns h (omega arith, (omega arith, (omega arith, (omega arith, (omega arith, tt)))))

-- The 15 products.
pub inverse_law : {q N : ℕ} → Member q qs → Member N Ns → (N * inverse_of q N) % q ≡ 1
unfolding inverse_of
inverse_law {q} {N} hq hN =
    each (λ q. (N * inverse_of q N) % q ≡ 1) qs hq (
      each (λ N. (N * inverse_of 257 N) % 257 ≡ 1) Ns hN (refl, (refl, (refl, (refl, (refl, tt))))),
      (
        each (λ N. (N * inverse_of 65537 N) % 65537 ≡ 1) Ns hN (refl, (refl, (refl, (refl, (refl, tt))))),
        (
          each (λ N. (N * inverse_of 2147483647 N) % 2147483647 ≡ 1) Ns hN (refl, (refl, (refl, (refl, (refl, tt))))),
          tt,
        ),
      ),
    )

pub inverse-lt : {q N : ℕ} → Member q qs → Member N Ns → inverse_of q N < q
unfolding inverse_of
inverse-lt {q} {N} hq hN =
    each (λ q. inverse_of q N < q) qs hq (
      each (λ N. inverse_of 257 N < 257) Ns hN (omega arith, (omega arith, (omega arith, (omega arith, (omega arith, tt))))),
      (
        each (λ N. inverse_of 65537 N < 65537) Ns hN (omega arith, (omega arith, (omega arith, (omega arith, (omega arith, tt))))),
        (
          each (λ N. inverse_of 2147483647 N < 2147483647) Ns hN (omega arith, (omega arith, (omega arith, (omega arith, (omega arith, tt))))),
          tt,
        ),
      ),
    )

-- N * (t/N) = t.
pub inverse-mul : {q N : ℕ} → Member q qs → Member N Ns → (t : ℕ) → Cong q (N * (t * inverse_of q N)) t
inverse-mul {q} {N} hq hN t =
    cong_trans {b = t * (N * inverse_of q N)} (cong_eq (omega arith))
    (cong_trans {b = t * 1} (cong_mul cong_refl one) (cong_eq (omega arith)))
  where
    one : Cong q (N * inverse_of q N) 1
    one = record { same = inverse_law hq hN ∙ sym (mod-eq_of_lt (omega (arith, q_least hq))) }
