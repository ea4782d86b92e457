-- Laws for message 3.
-- Assumes nothing.
use Prim.Native.Nat.{ℕ, suc, ◌+◌, ◌*◌, ◌-◌, ◌≤◌, ◌<◌}
use mathlib.Core.Path.{◌≡◌, refl, sym, ◌∙◌, ap, ap₂, subst}
use mathlib.Core.Bool.{true, false}
use mathlib.Core.List.{List, [], ◌++◌, append_assoc}
use native.Mathlib.Omega.{arith}
use lib.ListN.{length, get_or, take, drop}
use Rattle.lists.specs.Written.{parts_joined, built_item, built_none}
use Rattle.lists.specs.Index.{cat, pick, part}
use Rattle.lists.specs.Bytes.{nums}
use Rattle.lists.specs.CatLaws.{cat-more}
use Rattle.sha.specs.State.{Stands, Fed, fed_join, fed_nil}
use Rattle.sha.specs.declared.Sha.{Sha}
use Rattle.sha_core.specs.Fips180.{sha256}
use Rattle.streams.specs.Streams.{block}
use Rattle.protocol.specs.Key.{Key, depth}
use Rattle.protocol.specs.Shares.{View, dealt, Ωin, Πin, b, s, input}
use Rattle.protocol.specs.Prover.{prover_view, kept, hπin, sized, opened, message3}
use Rattle.execution.proofs.Held.{s_last}
use Rattle.execution.specs.Shown.{Sized, Holds, place_of}
use Rattle.execution.specs.Begun.{Begun}
use Rattle.execution.specs.Lists.{alpha_at}
use Rattle.masks.specs.Masks.{Carried, Masked}
use Rattle.views.specs.Seen.{ForΩ, ForΠ}
use Rattle.views.proofs.Laws.{pi_is}
use Rattle.prover.proofs.Chosen.{built_skip, cat_skip}
use Rattle.message_3.specs.Parts.{OmegaOf, PiOf, KeptBuilt, Rest}

-- ---- one execution that is dealt
module _ {q m N e : ℕ} {leaves work : List ℕ} (K : Key) (v : View) (sized : Sized q m N K) (some : 1 ≤ N) (ex : v.ex ≡ e) (whole : v.hid ≡ K.N) (S : Carried K v leaves work) where
  last : suc (K.N - 1) ≡ K.N
  last = omega (arith, sized.parties)

  open_last : K.N - 1 ≡ v.hid → ⊥
  open_last z = let no : ⊥ = omega (arith, z, whole, last) in no

  pub for_omega : ForΩ m N e leaves work K v
  for_omega =
      record {
        columns = sized.columns;
        parties = sized.parties;
        ex = ex;
        seed = subst (λ (x : ℕ). part leaves (16 * (x - 1)) 16 ≡ v.seed (x - 1)) sized.parties
            (S.seeds.at (K.N - 1) (omega (arith, last)) open_last);
        s_n = λ k h.
            sym (s_last K v k (K.N - 1) last)
            ∙ (sym (S.ss.at k (K.N - 1) (omega (arith, sized.columns)) (omega (arith, last)) open_last)
            ∙ ap₂ (λ (x y : ℕ). get_or work (place_of x (y - 1) (2 * x + k)) 0) sized.columns sized.parties);
      }

  here : (P : ℕ → ℕ → ℕ → Type 0) → P K.m K.N v.hid → P m N N
  here P h =
      subst (λ (x : ℕ). P x N N) sized.columns (subst (λ (x : ℕ). P K.m x N) sized.parties (subst (λ (x : ℕ). P K.m K.N x) (whole ∙ sized.parties) h))

  pub for_pi : (given : List ℕ) → ForΠ q m N N e given work K v
  for_pi given =
      record {
        sized = sized;
        ex = ex;
        hidden = whole ∙ sized.parties;
        αh = λ h k y. absurd (omega arith);
        bs = here (λ x y z. Holds x y z 0 work (b K v)) S.bs;
        ss = here (λ x y z. Holds x y z (2 * x) work (s K v)) S.ss;
      }

pub omega_of : {q m N D e : ℕ} {master secret leaves work r : List ℕ} → 1 ≤ N → Masked q m N D master secret leaves work
    → ((K : Key) (v : View) → ForΩ m N e leaves work K v → r ≡ sha256 (Ωin K v)) → OmegaOf q m N D e master secret r
unfolding dealt
omega_of {e} {master} {secret} some so f =
    record { is = λ K sized deep. f K (dealt K e master (λ k. get_or secret k 0)) (for_omega K (dealt K e master (λ k. get_or secret k 0)) sized some refl refl (so.carried K e sized deep)) }

pub pi_of : {q m N D e : ℕ} {master secret κ leaves work r : List ℕ} (given : List ℕ) → 1 ≤ N → Masked q m N D master secret leaves work
    → r ≡ sha256 (input 6 (e + 1) 0 (cat m (λ k. nums N (alpha_at q m N given work k)) ++ block κ (2 * e))) → PiOf q m N D e master secret κ r
unfolding dealt
pi_of {e} {master} {secret} {κ} given some so is =
    record {
      is = λ K sized deep.
          is ∙ ap sha256 (pi_is (for_pi K (dealt K e master (λ k. get_or secret k 0)) sized some refl refl (so.carried K e sized deep) given) κ);
    }

-- Ω goes to its place, and Π to the hash
pub kept-start : {q m N D : ℕ} {E seeds secret κ : List ℕ} (o : List ℕ) (s : Sha) → KeptBuilt q m N D 0 0 E seeds secret κ o o s s
unfolding cat
kept-start o s = record { Ω = λ K sized deep. built_none _ o; Π = λ K sized deep. fed_nil s }

pub kept_skip : {q m N D at : ℕ} {E seeds secret κ o₀ o : List ℕ} {s₀ s : Sha} {a : ℕ} (b : ℕ) → a ≤ b → ((y : ℕ) → a ≤ y → y < b → opened E y ≡ true)
    → KeptBuilt q m N D a at E seeds secret κ o₀ o s₀ s → KeptBuilt q m N D b at E seeds secret κ o₀ o s₀ s
kept_skip {E = E} {seeds = seeds} {secret = secret} {κ = κ} {s₀ = s₀} {s = s} {a = a} b l h so =
    record {
      Ω = λ K sized deep. built_skip b l (λ y c d. rw (h y c d) refl) (so.Ω K sized deep);
      Π = λ K sized deep.
          subst (λ d. Fed s₀ d s) (sym (cat_skip a b (λ e. pick (opened E e) [] (sha256 (Πin K (prover_view K seeds secret e) κ))) l (λ y c d. rw (h y c d) refl))) (so.Π K sized deep);
    }

pub kept_some : {q m N D x at : ℕ} {E seeds secret κ o₀ o a b a' : List ℕ} {s₀ s t : Sha} → opened E x ≡ false → length a ≡ 32
    → OmegaOf q m N D x (part seeds (16 * x) 16) secret a → PiOf q m N D x (part seeds (16 * x) 16) secret κ b → a' ≡ a → Fed s b t
    → KeptBuilt q m N D x at E seeds secret κ o₀ o s₀ s
    → KeptBuilt q m N D (x + 1) (at + 32) E seeds secret κ o₀ (take at o ++ (a' ++ drop (at + 32 - at) (drop at o))) s₀ t
unfolding prover_view
kept_some {x = x} {E = E} {seeds = seeds} {secret = secret} {κ = κ} {a = a} e l ω π v fed b =
    record {
      Ω = λ K sized deep. rw v (built_item 32 a (b.Ω K sized deep) (rw (e, ← ω.is K sized deep) refl) l);
      Π = λ K sized deep.
          rw (cat-more x (λ e. pick (opened E e) [] (sha256 (Πin K (prover_view K seeds secret e) κ))), e, ← π.is K sized deep) (fed_join (b.Π K sized deep) fed);
    }

pub rest_of : {q m N D M : ℕ} {E seeds secret κ o₀ o h r : List ℕ} {s₀ s : Sha} (x at : ℕ) → Begun 5 0 0 s₀ → KeptBuilt q m N D x at E seeds secret κ o₀ o s₀ s → x ≡ M
    → ((d : List ℕ) → Stands s d → h ≡ sha256 d) → r ≡ h
    → Rest q m N D M E seeds secret κ (take at o ++ (r ++ drop (length o - at) (drop at o)))
unfolding hπin kept
rest_of {E = E} {seeds = seeds} {secret = secret} {κ = κ} {o₀ = o₀} {r = r} x at begun a e f is =
    record {
      is = λ K sized deep eM.
          let ω = a.Ω K sized deep in
          let h = is ∙ (f _ (begun.stands _ _ (a.Π K sized deep)) ∙ ap (λ n. sha256 (input 5 0 0 (cat n (λ e. pick (opened E e) [] (sha256 (Πin K (prover_view K seeds secret e) κ)))))) (e ∙ sym eM)) in
          rw ω.is (parts_joined o₀ (cat x (λ e. pick (opened E e) [] (sha256 (Ωin K (prover_view K seeds secret e))))) r at (sym ω.long) (ap (λ n. cat n (λ e. pick (opened E e) [] (sha256 (Ωin K (prover_view K seeds secret e))))) e) h);
    }

pub message3_of : {q m N D M : ℕ} {E seeds secret κ a b : List ℕ} (K : Key) → Rest q m N D M E seeds secret κ b → Sized q m N K → depth K ≡ D → K.M ≡ M
    → a ≡ cat M (λ e. pick (opened E e) (part seeds (16 * e) 16) []) → a ++ b ≡ message3 K seeds secret E κ
unfolding message3 kept
message3_of {M} {E} {seeds} {secret} {κ} {a} {b} K r sized deep eM ea =
    ap₂ (λ x y. x ++ y) ea (r.is K sized deep eM)
    ∙ rw (← eM)
    (sym
    (append_assoc (cat K.M (λ e. pick (opened E e) (part seeds (16 * e) 16) []))
    (cat K.M (λ e. pick (opened E e) [] (sha256 (Ωin K (prover_view K seeds secret e))))) (sha256 (hπin K (prover_view K seeds secret) E κ))))
