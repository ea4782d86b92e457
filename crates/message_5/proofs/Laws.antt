-- Laws for message 5.
-- Assumes nothing.
use Prim.Native.Nat.{ℕ, ◌+◌, ◌*◌, ◌<◌, ◌≤◌}
use mathlib.Core.Path.{◌≡◌, refl, sym, ◌∙◌, ap, subst}
use mathlib.Core.Bool.{true, false}
use mathlib.Core.List.{List, [], ◌++◌}
use native.Mathlib.Omega.{arith}
use lib.ListN.{get_or, get_or-append}
use Rattle.lists.specs.Index.{cat, pick, part}
use Rattle.lists.specs.Tab.{tab, tab-at, tab-length}
use Rattle.lists.specs.Bytes.{words}
use Rattle.lists.specs.CatLaws.{cat-more}
use Rattle.sha.specs.State.{Stands, Fed, fed_join, fed_nil}
use Rattle.sha.specs.declared.Sha.{Sha}
use Rattle.sha_core.specs.Fips180.{sha256}
use Rattle.streams.specs.Streams.{block}
use Rattle.protocol.specs.Key.{Key, entries, key_of}
use Rattle.protocol.specs.Shares.{View, input, dealt, o, Ψin}
use Rattle.protocol.specs.Prover.{prover_view, kept, hψin, opened, message5}
use Rattle.execution.specs.Shown.{Shown}
use Rattle.execution.specs.Prepared.{Dealt}
use Rattle.execution.specs.Begun.{Begun}
use Rattle.views.proofs.Laws.{psi_is}
use Rattle.response.specs.Held.{Held}
use Rattle.key.specs.Limits.{Depth}
use Rattle.key.specs.Numbers.{Read}
use Rattle.key.specs.KeyLaws.{entries_of}
use Rattle.key.specs.declared.sizes.Numbers.{Numbers}
use Rattle.prover.proofs.Chosen.{cat_skip}
use Rattle.prover.proofs.Laws.{sized_of}
use Rattle.message_5.specs.Parts.{Keyed, PsiOf, KeptFed, AllFed, Fifth}

-- the lists of an execution that was dealt, nobody of which is hidden
held : {q n m N D e : ℕ} {entries leaves work : List ℕ} {K : Key} (master : List ℕ) (z : ℕ → ℕ) → Keyed q n m N D entries K
    → Shown K (dealt K e master z) leaves work → Held q n m N e entries work K (dealt K e master z)
unfolding dealt
held master z k S =
    record { sized = k.sized; rows = k.rows; entry = k.entry; ex = refl; hidden = refl; oh = refl; bs = S.bs; ds = S.ds; ss = S.ss }

pub psi_of : {q n m N D e : ℕ} {master secret κ L entries leaves work outs r : List ℕ} → Dealt q m N D master secret leaves work
    → ((K : Key) (v : View) → Held q n m N e entries work K v → outs ≡ tab N (o K v L))
    → r ≡ sha256 (input 8 (e + 1) 0 (words outs ++ block κ (2 * e + 1))) → PsiOf q n m N D e master secret κ L entries r
unfolding dealt
psi_of {e = e} {master = master} {secret = secret} {κ = κ} {L = L} d f h =
    record {
      is = λ K k.
          h
          ∙ ap sha256
          (psi_is K (dealt K e master (λ k. get_or secret k 0)) κ L refl
          (f K (dealt K e master (λ k. get_or secret k 0)) (held master (λ k. get_or secret k 0) k (d.shown K e k.sized k.deep))
          ∙ ap (λ x. tab x (o K (dealt K e master (λ k. get_or secret k 0)) L)) (sym k.sized.parties)));
    }

pub fed_kept : {q n m N D x : ℕ} {E seeds secret κ L entries h : List ℕ} {s r : Sha} → opened E x ≡ false
    → PsiOf q n m N D x (part seeds (16 * x) 16) secret κ L entries h → Fed s h r → KeptFed q n m N D x E seeds secret κ L entries s r
unfolding prover_view
fed_kept e p f = record { fed = λ K k. rw (e, ← p.is K k) f }

pub all_none : {q n m N D : ℕ} {E seeds secret κ L entries : List ℕ} (s : Sha) → AllFed q n m N D 0 E seeds secret κ L entries s s
unfolding cat
all_none s = record { fed = λ K k. fed_nil s }

pub all_more : {q n m N D : ℕ} {E seeds secret κ L entries : List ℕ} {s₀ s t : Sha} (x : ℕ) → AllFed q n m N D x E seeds secret κ L entries s₀ s
    → KeptFed q n m N D x E seeds secret κ L entries s t → AllFed q n m N D (x + 1) E seeds secret κ L entries s₀ t
all_more {E = E} {seeds = seeds} {secret = secret} {κ = κ} {L = L} x a b =
    record {
      fed = λ K k.
          rw (cat-more x (λ e. pick (opened E e) [] (sha256 (Ψin K (prover_view K seeds secret e) κ L)))) (fed_join (a.fed K k) (b.fed K k));
    }

pub all_skip : {q n m N D : ℕ} {E seeds secret κ L entries : List ℕ} {s₀ s : Sha} {a : ℕ} (b : ℕ) → a ≤ b → ((y : ℕ) → a ≤ y → y < b → opened E y ≡ true)
    → AllFed q n m N D a E seeds secret κ L entries s₀ s → AllFed q n m N D b E seeds secret κ L entries s₀ s
all_skip {E = E} {seeds = seeds} {secret = secret} {κ = κ} {L = L} {s₀ = s₀} {s = s} {a = a} b l h so =
    record {
      fed = λ K k.
          subst (λ d. Fed s₀ d s) (sym (cat_skip a b (λ e. pick (opened E e) [] (sha256 (Ψin K (prover_view K seeds secret e) κ L))) l (λ y c d. rw (h y c d) refl))) (so.fed K k);
    }

pub all_fed : {q n m N D M : ℕ} {E seeds secret κ L entries : List ℕ} {s₀ s : Sha} (x : ℕ) {r : List ℕ} → Begun 7 0 0 s₀
    → AllFed q n m N D x E seeds secret κ L entries s₀ s → x ≡ M → ((d : List ℕ) → Stands s d → r ≡ sha256 d) → Fifth q n m N D M E seeds secret κ L entries r
unfolding message5 hψin kept
all_fed {E = E} {seeds = seeds} {secret = secret} {κ = κ} {L = L} x begun a e f =
    record {
      is = λ K k eM.
          f _ (begun.stands _ _ (a.fed K k))
          ∙ ap (λ n. sha256 (input 7 0 0 (cat n (λ e. pick (opened E e) [] (sha256 (Ψin K (prover_view K seeds secret e) κ L)))))) (e ∙ sym eM);
    }

-- the numbers and the entries that were read are the key's
pub keyed_of : (x : List ℕ) (k : Numbers) (rest : List ℕ) {D : ℕ} {l : List ℕ} → Read x k → Depth k.parties D
    → l ≡ tab (entries (key_of x)) (key_of x).entry ++ rest → Keyed k.modulus.q k.n k.m k.parties D l (key_of x)
keyed_of x k rest {D} {l} r d is =
    record {
      sized = sized_of r.of;
      rows = sym r.of.n_is;
      entry = λ j h.
          let within : j < entries (key_of x) = omega (arith, entries_of k (key_of x) r.of) in
          sym
          (ap (λ (y : List ℕ). get_or y j 0) is
          ∙ (get_or-append (tab (entries (key_of x)) (key_of x).entry) rest 0 j (rw (tab-length (entries (key_of x)) (key_of x).entry) within)
          ∙ tab-at (entries (key_of x)) (key_of x).entry j within));
      deep = sym (d.is (key_of x) (sym r.of.parties_is));
    }
