-- Laws for the prover's messages.
-- Assumes nothing.
use Prim.Native.Nat.{ℕ, ◌+◌, ◌*◌, ◌-◌, ◌<◌, ◌≤◌}
use mathlib.Core.Path.{◌≡◌, refl, sym, ◌∙◌, ap, ap₂}
use mathlib.Core.Bool.{Bool, true, false, not}
use mathlib.Core.List.{List, [], ◌∷◌, ◌++◌, append_assoc}
use native.Mathlib.Omega.{arith}
use lib.Dec.{eqb}
use lib.ListN.{length, get_or, take, drop}
use lib.Seq.{drop-drop}
use borrow.Author.Tests.{eq-eqb, ne_eqb, le-leb, lt-leb, leb-true, eqb-true, not-false}
use Rattle.lists.specs.Index.{holds, pick, count}
use Rattle.lists.specs.Check.{Check, ◌⇒◌, Verdict, accepted, refused, first}
use Rattle.lists.specs.TestLaws.{first_stops, first_more, Clean, clean, cleared, clean-left, clean-right, holds-each, count_below}
use Rattle.numbers.specs.Sum.{sum}
use Rattle.protocol.specs.Key.{Key, entries, key_of, key_checks}
use Rattle.protocol.specs.Prover.{message3, message7, checks1, checks3, checks5, checks7, statement_checks, good_e, good_hidden, binary, solves, sized, opened, lent_checks, verdict3, verdict7, output}
use Rattle.protocol.specs.Judge.{hidden, given_count, reply_size}
use Rattle.protocol.proofs.Sizes.{message7_length, reply_bytes, replies_bytes}
use Rattle.protocol.proofs.Opened.{opened-count, kept-count}
use Rattle.execution.specs.Shown.{Sized}
use Rattle.key.specs.Numbers.{Of, key_with}
use Rattle.key.specs.declared.sizes.Numbers.{Numbers}
use Rattle.transcript.specs.Replies.{parts_with, length-of}
use Rattle.prover.specs.Answers.{Length, Refused, answer_of, verdict}
use Rattle.prover.specs.Parts.{SizedInputs, Inputs}

-- ---- refusals
-- the first number that applies of two lists of tests
pub of_left : (a b : List Check) {n : ℕ} → refused n ≡ first a → refused n ≡ first (a ++ b)
of_left a b e = sym (first_stops a b (sym e))

pub of_right : (a b : List Check) {v : Verdict} → first a ≡ accepted → v ≡ first b → v ≡ first (a ++ b)
of_right a b e h = h ∙ sym (first_more a b e)

pub of_both : (a b : List Check) → first a ≡ accepted → first b ≡ accepted → first (a ++ b) ≡ accepted
of_both a b e h = first_more a b e ∙ h

module _ (K : Key) (message : List ℕ) (n m N count size from work entry : ℕ) (en : K.n ≡ n) (em : K.m ≡ m) (eN : K.N ≡ N) (long : length message ≡ count) where
  pub lent_place : size < from → refused 11 ≡ first (lent_checks K message size from work entry)
  unfolding lent_checks holds first
  lent_place h = rw (lt-leb from size h)

  pub lent_long : from ≤ size → size - from < count → refused 11 ≡ first (lent_checks K message size from work entry)
  unfolding lent_checks holds first
  lent_long h a = rw (le-leb from size h, long, lt-leb count (size - from) a)

  pub lent_work : from ≤ size → count ≤ size - from → work < 4 * m * N → refused 11 ≡ first (lent_checks K message size from work entry)
  unfolding lent_checks holds first
  lent_work h a b = rw (le-leb from size h, long, le-leb count (size - from) a, em, eN, lt-leb (4 * m * N) work b)

  pub lent_entries : from ≤ size → count ≤ size - from → 4 * m * N ≤ work → entry < n * (m + 1)
      → refused 11 ≡ first (lent_checks K message size from work entry)
  unfolding lent_checks holds first
  lent_entries h a b d = rw (le-leb from size h, long, le-leb count (size - from) a, en, em, eN, le-leb (4 * m * N) work b, lt-leb (n * (m + 1)) entry d)

  pub lent_none : from ≤ size → count ≤ size - from → 4 * m * N ≤ work → n * (m + 1) ≤ entry
      → accepted ≡ first (lent_checks K message size from work entry)
  unfolding lent_checks holds first
  lent_none h a b d = rw (le-leb from size h, long, le-leb count (size - from) a, en, em, eN, le-leb (4 * m * N) work b, le-leb (n * (m + 1)) entry d)

pub seeds_wrong : (K : Key) (seeds : List ℕ) (M : ℕ) → K.M ≡ M → (length seeds ≡ 16 * M → ⊥) → refused 6 ≡ first (checks1 K seeds)
unfolding checks1 first
seeds_wrong K seeds M e h = rw (e, ne_eqb (length seeds) (16 * M) h)

pub seeds_right : (K : Key) (seeds : List ℕ) (M : ℕ) → K.M ≡ M → length seeds ≡ 16 * M → accepted ≡ first (checks1 K seeds)
unfolding checks1 first
seeds_right K seeds M e h = rw (e, eq-eqb (length seeds) (16 * M) h)

-- of a key that was not refused, with the inputs' and the lent lists' checks
pub key_refused : (a b c : List Check) {n : ℕ} → refused n ≡ first a → refused n ≡ first (a ++ b ++ c)
key_refused a b c e = of_left (a ++ b) c (of_left a b e)

pub input_refused : (a b c : List Check) {n : ℕ} → first a ≡ accepted → refused n ≡ first b → refused n ≡ first (a ++ b ++ c)
input_refused a b c k e = of_left (a ++ b) c (of_right a b k e)

pub lent_refused : (a b c : List Check) {v : Verdict} → first a ≡ accepted → first b ≡ accepted → v ≡ first c → v ≡ first (a ++ b ++ c)
lent_refused a b c k l e = of_right (a ++ b) c (of_both a b k l) e

-- room for the message, and for the work
pub record Room (K : Key) (message : List ℕ) (size from work entry : ℕ) : Type 0 where
  pub place : from ≤ size
  pub long : from + length message ≤ size
  pub shares : 4 * K.m * K.N ≤ work
  pub rows : entries K ≤ entry

pub room : (K : Key) (message : List ℕ) (size from work entry : ℕ) → Clean (lent_checks K message size from work entry) → Room K message size from work entry
unfolding lent_checks
room K message size from work entry c =
    let h = holds-each _ (not-false _ c.0) in
    record {
      place = leb-true from size h.0;
      long = omega (arith, leb-true from size h.0, leb-true (length message) (size - from) h.1.0);
      shares = leb-true (4 * K.m * K.N) work h.1.1.0;
      rows = leb-true (entries K) entry h.1.1.1.0;
    }

-- the three parts of a call's checks
pub record Passed (K : Key) (key : List ℕ) (b : List Check) (message : List ℕ) (size from work entry : ℕ) : Type 0 where
  pub of_key : first (key_checks K key) ≡ accepted
  pub inputs : Clean b
  pub room : Room K message size from work entry

pub passed : (K : Key) (key : List ℕ) (b : List Check) (message : List ℕ) (size from work entry : ℕ)
    → first (key_checks K key ++ b ++ lent_checks K message size from work entry) ≡ accepted → Passed K key b message size from work entry
passed K key b message size from work entry e =
    let c = clean (key_checks K key ++ b ++ lent_checks K message size from work entry) e in
    let front = clean-left (key_checks K key ++ b) (lent_checks K message size from work entry) c in
    record {
      of_key = cleared _ (clean-left (key_checks K key) b front);
      inputs = clean-right (key_checks K key) b front;
      room = room K message size from work entry (clean-right (key_checks K key ++ b) (lent_checks K message size from work entry) c);
    }

pub untouched : (v : Verdict) (message out : List ℕ) (from n : ℕ) → v ≡ refused n → out ≡ output v message from out
unfolding output
untouched v message out from n e = rw e

pub answer-length : (v : Verdict) (message : List ℕ) (n : ℕ) → v ≡ accepted → length message ≡ n → Length n ≡ answer_of v message
answer-length v message n e long = rw (e, long)

pub answer_refused : (v : Verdict) (message : List ℕ) (n : ℕ) → v ≡ refused n → Refused n ≡ answer_of v message
answer_refused v message n e = rw e

pub refuses : (v : Verdict) (message out : List ℕ) (from : ℕ) {n : ℕ} → refused n ≡ v → (Refused n ≡ answer_of v message) × (out ≡ output v message from out)
refuses v message out from {n} e = (answer_refused v message n (sym e), untouched v message out from n (sym e))

-- the numbers of a key that was read
pub sized_of : {k : Numbers} {K : Key} → Of k K → Sized k.modulus.q k.m k.parties K
sized_of of = record { modulus = sym of.q_is; columns = sym of.m_is; parties = sym of.parties_is }

pub three_of_four : (m N a b w : ℕ) → a ≡ m → b ≡ N → 4 * m * N ≤ w → 3 * a * b ≤ w
three_of_four m N a b w e f h = rw (e, f) (omega arith)

pub rows_of : {k : Numbers} {K : Key} {x : ℕ} → Of k K → entries K ≤ x → k.n * (k.m + 1) ≤ x
rows_of of h = rw (of.n_is, of.m_is) h

-- ---- message 1
pub seeds_long : (K : Key) (seeds : List ℕ) → Clean (checks1 K seeds) → length seeds ≡ 16 * K.M
unfolding checks1
seeds_long K seeds c = eqb-true (length seeds) (16 * K.M) (not-false _ c.0)

-- ---- messages 3 and 5: the inputs
module _ {m M : ℕ} {seeds secret κ : List ℕ} where
  pub sized_1 : (length seeds ≡ 16 * M → ⊥) → SizedInputs m M seeds secret κ false
  unfolding holds
  sized_1 h = record { is = λ K em eM. rw (eM, ne_eqb (length seeds) (16 * M) h) }

  pub sized_2 : length seeds ≡ 16 * M → (length secret ≡ m → ⊥) → SizedInputs m M seeds secret κ false
  unfolding holds
  sized_2 a h = record { is = λ K em eM. rw (eM, em, eq-eqb (length seeds) (16 * M) a, ne_eqb (length secret) m h) }

  pub sized_3 : length seeds ≡ 16 * M → length secret ≡ m → SizedInputs m M seeds secret κ (eqb (length κ) 16)
  unfolding holds
  sized_3 a b = record { is = λ K em eM. sym (rw (eM, em, eq-eqb (length seeds) (16 * M) a, eq-eqb (length secret) m b) (last_of (eqb (length κ) 16))) }
    where
      last_of : (t : Bool) → pick t true false ≡ t
      last_of true = refl
      last_of false = refl

module _ (K : Key) (seeds secret E κ : List ℕ) where
  pub statement_7 : good_e K E ≡ false → refused 7 ≡ first (statement_checks K seeds secret E κ)
  unfolding statement_checks first
  statement_7 h = rw h

  pub statement_8 : good_e K E ≡ true → binary K (λ k. get_or secret k 0) ≡ false → refused 8 ≡ first (statement_checks K seeds secret E κ)
  unfolding statement_checks first
  statement_8 a h = rw (a, h)

  pub statement_9 : good_e K E ≡ true → binary K (λ k. get_or secret k 0) ≡ true → solves K (λ k. get_or secret k 0) ≡ false
      → refused 9 ≡ first (statement_checks K seeds secret E κ)
  unfolding statement_checks first
  statement_9 a b h = rw (a, b, h)

  pub statement_none : good_e K E ≡ true → binary K (λ k. get_or secret k 0) ≡ true → solves K (λ k. get_or secret k 0) ≡ true
      → accepted ≡ first (statement_checks K seeds secret E κ)
  unfolding statement_checks first
  statement_none a b h = rw (a, b, h)

  abbrev lengths3 : List Bool
  lengths3 = sized seeds (16 * K.M) ∷ sized secret K.m ∷ sized κ 16 ∷ []

  pub inputs3_6 : holds lengths3 ≡ false → refused 6 ≡ first (checks3 K seeds secret E κ)
  unfolding checks3 first
  inputs3_6 h = rw h

  pub inputs3_rest : {v : Verdict} → holds lengths3 ≡ true → v ≡ first (statement_checks K seeds secret E κ) → v ≡ first (checks3 K seeds secret E κ)
  unfolding checks3 first
  inputs3_rest h e = rw h e

  -- with the verifier's seed as well
  with_seed : (a b c d : Bool) → holds (a ∷ b ∷ c ∷ d ∷ []) ≡ pick (holds (a ∷ b ∷ c ∷ [])) d false
  unfolding holds
  with_seed true true true true = refl
  with_seed true true true false = refl
  with_seed true true false d = refl
  with_seed true false c d = refl
  with_seed false b c d = refl

  pub inputs5_seed : (L : List ℕ) → (length L ≡ 16 → ⊥) → refused 6 ≡ first (checks5 K seeds secret E κ L)
  unfolding checks5 first
  inputs5_seed L w = rw (with_seed (sized seeds (16 * K.M)) (sized secret K.m) (sized κ 16) (sized L 16), ne_eqb (length L) 16 w, none (holds lengths3))
    where
      none : (t : Bool) → pick t false false ≡ false
      none true = refl
      none false = refl

  pub inputs5_rest : (L : List ℕ) {v : Verdict} → length L ≡ 16 → v ≡ first (checks3 K seeds secret E κ) → v ≡ first (checks5 K seeds secret E κ L)
  unfolding checks3 checks5 first
  inputs5_rest L w e = rw (with_seed (sized seeds (16 * K.M)) (sized secret K.m) (sized κ 16) (sized L 16), eq-eqb (length L) 16 w, same (holds lengths3)) e
    where
      same : (t : Bool) → pick t true false ≡ t
      same true = refl
      same false = refl

  pub secret_long : holds lengths3 ≡ true → length secret ≡ K.m
  secret_long h = eqb-true (length secret) K.m (holds-each lengths3 h).1.0

-- room for one more
pub room_16 : (n x a w : ℕ) (p : ℕ → Bool) → x < n → a ≡ 16 * count x p → w ≡ 16 * count n p → p x ≡ true → a + 16 ≤ w
room_16 n x a w p h e f t = omega (arith, count_below n p x h t)

pub room_32 : (n x a w : ℕ) (p : ℕ → Bool) → x < n → a ≡ 32 * count x (λ j. not (p j)) → w ≡ 32 * count n (λ j. not (p j)) → p x ≡ false → a + 32 ≤ w
room_32 n x a w p h e f t = omega (arith, count_below n (λ j. not (p j)) x h (ap not t))

-- ---- what inputs that were not refused are
pub inputs_of3 : (K : Key) (seeds secret E κ : List ℕ) → Clean (checks3 K seeds secret E κ) → Inputs K seeds secret E κ
unfolding checks3 statement_checks
inputs_of3 K seeds secret E κ c =
    let h = holds-each _ (not-false _ c.0) in
    record {
      seeds_long = eqb-true (length seeds) (16 * K.M) h.0;
      secret_long = eqb-true (length secret) K.m h.1.0;
      κ_long = eqb-true (length κ) 16 h.1.1.0;
      good = not-false _ c.1.0;
    }

module _ (key seeds secret E κ : List ℕ) (size from work entry : ℕ) where
  pub passed3 : verdict3 key seeds secret E κ size from work entry ≡ accepted
      → Passed (key_of key) key (checks3 (key_of key) seeds secret E κ) (message3 (key_of key) seeds secret E κ) size from work entry
  unfolding verdict3
  passed3 = passed (key_of key) key (checks3 (key_of key) seeds secret E κ) (message3 (key_of key) seeds secret E κ) size from work entry

-- how many executions are opened, and how many kept
pub opened_of : {k : Numbers} (K : Key) (E : List ℕ) → Of k K → good_e K E ≡ true → count k.executions (opened E) ≡ k.opened
opened_of K E of g = ap (λ n. count n (opened E)) of.executions_is ∙ opened-count K E g ∙ sym of.τ_is

pub kept_of : {k : Numbers} (K : Key) (E : List ℕ) → Of k K → good_e K E ≡ true → count k.executions (λ j. not (opened E j)) ≡ k.executions - k.opened
kept_of K E of g = ap (λ n. count n (λ j. not (opened E j))) of.executions_is ∙ kept-count K E g ∙ sym (ap₂ (λ (x y : ℕ). x - y) of.executions_is of.τ_is)

pub inputs_of5 : (K : Key) (seeds secret E κ L : List ℕ) → Clean (checks5 K seeds secret E κ L) → (Inputs K seeds secret E κ) × (length L ≡ 16)
unfolding checks5 statement_checks
inputs_of5 K seeds secret E κ L c =
    let h = holds-each _ (not-false _ c.0) in (
      record {
        seeds_long = eqb-true (length seeds) (16 * K.M) h.0;
        secret_long = eqb-true (length secret) K.m h.1.0;
        κ_long = eqb-true (length κ) 16 h.1.1.0;
        good = not-false _ c.1.0;
      },
      eqb-true (length L) 16 h.1.1.1.0,
    )

-- ---- message 7
module _ (K : Key) (seeds secret E κ L hidden : List ℕ) where
  pub inputs7_5 : {n : ℕ} → refused n ≡ first (checks5 K seeds secret E κ L) → refused n ≡ first (checks7 K seeds secret E κ L hidden)
  unfolding checks7
  inputs7_5 = of_left (checks5 K seeds secret E κ L) (not (good_hidden K hidden) ⇒ 10 ∷ [])

  pub inputs7_10 : first (checks5 K seeds secret E κ L) ≡ accepted → good_hidden K hidden ≡ false → refused 10 ≡ first (checks7 K seeds secret E κ L hidden)
  unfolding checks7 first
  inputs7_10 a h = of_right (checks5 K seeds secret E κ L) (not (good_hidden K hidden) ⇒ 10 ∷ []) a (rw h)

  pub inputs7_none : first (checks5 K seeds secret E κ L) ≡ accepted → good_hidden K hidden ≡ true → accepted ≡ first (checks7 K seeds secret E κ L hidden)
  unfolding checks7 first
  inputs7_none a h = of_right (checks5 K seeds secret E κ L) (not (good_hidden K hidden) ⇒ 10 ∷ []) a (rw h)

  pub inputs_of7 : Clean (checks7 K seeds secret E κ L hidden) → (Inputs K seeds secret E κ) × (length L ≡ 16) × (good_hidden K hidden ≡ true)
  unfolding checks7
  inputs_of7 c =
      let i = inputs_of5 K seeds secret E κ L (clean-left (checks5 K seeds secret E κ L) _ c) in
      (i.0, i.1, not-false _ (clean-right (checks5 K seeds secret E κ L) (not (good_hidden K hidden) ⇒ 10 ∷ []) c).0)

-- the length of message 7 as code computes it
pub replies_are : (K : Key) (E hidden : List ℕ) (n : ℕ) → sum n (reply_size K (parts_with E hidden [])) ≡ replies_bytes K E hidden n
unfolding reply_size given_count hidden reply_bytes replies_bytes
replies_are K E hidden n = refl

pub count_7 : (k : Numbers) (K : Key) (seeds secret E κ L hidden : List ℕ) → Of k K → good_e K E ≡ true → good_hidden K hidden ≡ true → length κ ≡ 16
    → length (message7 K seeds secret E κ L hidden) ≡ 16 + sum k.executions (reply_size (key_with k []) (parts_with E hidden []))
count_7 k K seeds secret E κ L hidden of gE g_h long =
    message7_length K seeds secret E L hidden gE g_h κ long
    ∙ (ap (λ (x : ℕ). 16 + x) (sym (replies_are K E hidden K.M)) ∙ sym (length-of k K of (parts_with E hidden []) E hidden refl refl))

module _ (key seeds secret E κ L hidden : List ℕ) (size from work entry : ℕ) where
  pub passed7 : verdict7 key seeds secret E κ L hidden size from work entry ≡ accepted
      → Passed (key_of key) key (checks7 (key_of key) seeds secret E κ L hidden) (message7 (key_of key) seeds secret E κ L hidden) size from work entry
  unfolding verdict7
  passed7 = passed (key_of key) key (checks7 (key_of key) seeds secret E κ L hidden) (message7 (key_of key) seeds secret E κ L hidden) size from work entry

-- ---- a call
module _ (checks : Key → List Check) (message : Key → List ℕ) (key out : List ℕ) (from work entry : ℕ) where
  abbrev call-verdict : Verdict
  call-verdict = verdict checks message key (length out) from work entry

  abbrev call-lent : List Check
  call-lent = lent_checks (key_of key) (message (key_of key)) (length out) from work entry

  -- what is said, and what is left in the output
  abbrev Told : ℕ → Type 0
  Told n = (Refused n ≡ answer_of call-verdict (message (key_of key))) × (out ≡ output call-verdict (message (key_of key)) from out)

  pub by_key : {n : ℕ} → refused n ≡ first (key_checks (key_of key) key) → Told n
  by_key e = refuses call-verdict _ out from (key_refused _ (checks (key_of key)) call-lent e)

  pub by_inputs : {n : ℕ} → accepted ≡ first (key_checks (key_of key) key) → refused n ≡ first (checks (key_of key)) → Told n
  by_inputs a e = refuses call-verdict _ out from (input_refused (key_checks (key_of key) key) _ call-lent (sym a) e)

  put_in : (w : Verdict) (m ys : List ℕ) (n : ℕ) → w ≡ accepted → length m ≡ n → ys ≡ m → take from out ++ (ys ++ drop (from + n - from) (drop from out)) ≡ output w m from out
  unfolding output
  put_in w m ys n e l y =
      let k : from + (from + n - from) ≡ from + length m = omega (arith, l) in
      rw (e, y, drop-drop (from + n - from) from out, k) (sym (append_assoc (take from out) m (drop (from + length m) out)))

-- that a key was read, and the inputs were not refused
module _ (checks : Key → List Check) (message : Key → List ℕ) (key out : List ℕ) (from work entry : ℕ) {count : ℕ} {k : Numbers} (of : Of k (key_of key))
    (sizes : (K : Key) → Of k K → first (checks K) ≡ accepted → length (message K) ≡ count)
    (key_good : accepted ≡ first (key_checks (key_of key) key)) (inputs_good : accepted ≡ first (checks (key_of key))) where
  -- that the lent lists have this verdict
  abbrev Lends : Verdict → Type 0
  Lends v = (K : Key) (m : List ℕ) → K.n ≡ k.n → K.m ≡ k.m → K.N ≡ k.parties → length m ≡ count → v ≡ first (lent_checks K m (length out) from work entry)

  long : length (message (key_of key)) ≡ count
  long = sizes (key_of key) of (sym inputs_good)

  lent_is : {v : Verdict} → Lends v → v ≡ first (call-lent checks message key out from work entry)
  lent_is f = f (key_of key) (message (key_of key)) (sym of.n_is) (sym of.m_is) (sym of.parties_is) long

  whole : {v : Verdict} → Lends v → v ≡ call-verdict checks message key out from work entry
  whole f = lent_refused (key_checks (key_of key) key) (checks (key_of key)) _ (sym key_good) (sym inputs_good) (lent_is f)

  pub by_lent : {n : ℕ} → Lends (refused n) → Told checks message key out from work entry n
  by_lent f = refuses (call-verdict checks message key out from work entry) _ out from (whole f)

  -- room for the message, and for what it is made with
  pub has_room : Lends accepted → (from + count ≤ length out) × (k.n * (k.m + 1) ≤ entry) × (3 * k.m * k.parties ≤ work)
  has_room f =
      let r = room (key_of key) (message (key_of key)) (length out) from work entry (clean _ (sym (lent_is f))) in
      (omega (arith, r.long, long), rows_of of r.rows, three_of_four _ _ _ _ _ of.m_is of.parties_is r.shares)

  pub all_written : {ys : List ℕ} → Lends accepted → ys ≡ message (key_of key)
      → (Length count ≡ answer_of (call-verdict checks message key out from work entry) (message (key_of key)))
      × (take from out ++ (ys ++ drop (from + count - from) (drop from out)) ≡ output (call-verdict checks message key out from work entry) (message (key_of key)) from out)
  all_written f is =
      let v = sym (whole f) in
      (answer-length (call-verdict checks message key out from work entry) _ count v long, put_in checks message key out from work entry (call-verdict checks message key out from work entry) (message (key_of key)) _ count v long is)
