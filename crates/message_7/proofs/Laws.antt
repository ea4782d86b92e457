-- Laws for message 7.
-- Assumes nothing.
use Prim.Native.Nat.{ℕ, ◌+◌, ◌*◌, ◌-◌, ◌<◌, ◌≤◌, zero, suc}
use mathlib.Core.Path.{◌≡◌, refl, sym, ◌∙◌, ap, ap₂, subst}
use mathlib.Core.Bool.{true, false, not}
use mathlib.Core.List.{List, [], ◌∷◌, ◌++◌}
use native.Mathlib.Omega.{arith}
use lib.Dec.{leb}
use lib.ListN.{length, get_or, take, drop, get_or-append}
use borrow.Author.Tests.{leb-true}
use Rattle.lists.specs.Written.{built_all, built_more, built_none, puts_some}
use Rattle.lists.specs.Tab.{tab, tab-at, tab-length}
use Rattle.lists.specs.Index.{cat, count, pick, part}
use Rattle.lists.specs.TestLaws.{every-at, holds-each, pick_true, pick_false}
use Rattle.numbers.specs.Sum.{sum}
use Rattle.numbers.proofs.Sum.{sum_ext, sum_zero, sum_more, sum_grows}
use Rattle.protocol.specs.Key.{Key}
use Rattle.protocol.specs.Prover.{prover_view, opened, place, hidden_of, kept, message7, good_e, good_hidden}
use Rattle.protocol.specs.Transcript.{Parts}
use Rattle.protocol.specs.Judge.{hidden, given_count, reply_size}
use Rattle.protocol.proofs.Opened.{place-lt}
use Rattle.protocol.proofs.Sizes.{hidden_length, reply_bytes, replies_bytes, message7_length}
use Rattle.execution.specs.Prepared.{last_count}
use Rattle.key.specs.declared.sizes.Numbers.{Numbers}
use Rattle.key.specs.Limits.{Depth}
use Rattle.key.specs.Numbers.{Of, key_with, of_with}
use Rattle.transcript.specs.Replies.{parts_with, size_kept}
use Rattle.response.specs.Replies.{DealtReply}
use Rattle.prover.proofs.Laws.{sized_of}
use Rattle.prover.proofs.Chosen.{built_skip, count_skip, was_true, was_false}
use Rattle.message_7.specs.Parts.{reply_length, replies_length, Hides, KeyIn, reply_at, part_of, ReplyPuts, RepliesBuilt, RepliesAre, MessageIs}

-- ---- one reply
-- its length as code computes it
pub size_is : (k : Numbers) {D h r : ℕ} → Depth k.parties D
    → ((K : Key) (P : Parts) (x : ℕ) → Of k K → opened P.p2 x ≡ false → get_or P.p6 (place P.p2 x) 0 ≡ h → r ≡ reply_size K P x)
    → r ≡ reply_length k D (h - 1)
unfolding reply_length given_count hidden hidden_of place opened count
size_is k {D} {h} {r} deep f =
    f (key_with k []) (parts_with [] (h ∷ []) []) 0 (of_with k []) refl refl
    ∙ (size_kept (key_with k []) (parts_with [] (h ∷ []) []) 0 refl
    ∙ ap (λ x. 16 * x + 32 + 4 * (k.m + 1 + last_count k.m k.parties (h - 1))) (sym (deep.is (key_with k []) refl)))

pub reply_puts : {k : Numbers} {D x at n r g : ℕ} {seeds secret L entries o ys : List ℕ} → Depth k.parties D → r ≡ g
    → DealtReply k.modulus.q k.n k.m k.parties D x (r - 1) (part seeds (16 * x) 16) secret L entries ys
    → length ys ≡ n → ReplyPuts k x (g - 1) at (at + n) seeds secret L entries o (take at o ++ (ys ++ drop (at + n - at) (drop at o)))
unfolding prover_view
reply_puts {k} {at = at} {n = n} {o = o} {ys = ys} deep e d long =
    record {
      is = λ K given.
          rw (← e, ← d.is K (sized_of given.of) (sym given.of.n_is) given.entry (sym (deep.is K (sym given.of.parties_is))))
          (puts_some at n ys o long);
    }

-- ---- the replies below x
module _ {k : Numbers} {seeds secret E L hidden entries : List ℕ} where
  pub replies_none : (o : List ℕ) → RepliesBuilt k 0 0 seeds secret E L hidden entries o o
  replies_none o = record { is = λ K given. built_none _ o }

  pub replies_skip : {a at : ℕ} {o₀ o : List ℕ} (b : ℕ) → a ≤ b → ((y : ℕ) → a ≤ y → y < b → opened E y ≡ true)
      → RepliesBuilt k a at seeds secret E L hidden entries o₀ o → RepliesBuilt k b at seeds secret E L hidden entries o₀ o
  replies_skip b l h so = record { is = λ K given. built_skip b l (λ y c d. rw (h y c d) refl) (so.is K given) }

  pub replies_kept : {x at to y : ℕ} {o₀ o o' : List ℕ} → RepliesBuilt k x at seeds secret E L hidden entries o₀ o → opened E x ≡ false → y ≡ place E x
      → ReplyPuts k x (get_or hidden y 0 - 1) at to seeds secret L entries o o' → RepliesBuilt k (x + 1) to seeds secret E L hidden entries o₀ o'
  unfolding hidden_of
  replies_kept {x} {at} {to} {y} {o₀} {o} {o'} a t e p =
      record {
        is = λ K given.
            built_more (a.is K given) (p.is K given)
            (ap (λ j. reply_at K seeds secret L x (get_or hidden j 0 - 1)) e
            ∙ sym (pick_false (opened E x) [] (reply_at K seeds secret L x (get_or hidden (place E x) 0 - 1)) t));
      }

  pub replies_all : {x at : ℕ} {o₀ o : List ℕ} → RepliesBuilt k x at seeds secret E L hidden entries o₀ o → x ≡ k.executions → length o₀ ≤ at
      → RepliesAre k seeds secret E L hidden entries o
  replies_all a e h = record { is = λ K given. built_all (a.is K given) e h }

  pub message_is : {κ a b c : List ℕ} → RepliesAre k seeds secret E L hidden entries b → a ≡ κ → c ≡ a ++ b → MessageIs k seeds secret E κ L hidden entries c
  message_is r ea ec = record { is = λ K given. ec ∙ ap₂ (λ x y. x ++ y) ea (r.is K given) }

-- ---- places
module _ (k : Numbers) (D : ℕ) (E hidden : List ℕ) where
  pub at_first : 0 ≡ replies_length k D E hidden 0
  unfolding replies_length
  at_first = sym (sum_zero _)

  pub at-opened : (x at : ℕ) → at ≡ replies_length k D E hidden x → opened E x ≡ true → at ≡ replies_length k D E hidden (x + 1)
  unfolding replies_length
  at-opened x at e t =
      omega (
        arith,
        sum_more x (λ e. pick (opened E e) 0 (reply_length k D (hidden_of E hidden e))),
        pick_true (opened E x) 0 (reply_length k D (hidden_of E hidden x)) t,
        e,
      )

  at_run : (n a at : ℕ) → ((y : ℕ) → a ≤ y → y < a + n → opened E y ≡ true) → at ≡ replies_length k D E hidden a → at ≡ replies_length k D E hidden (a + n)
  at_run zero a at h e = e ∙ ap (replies_length k D E hidden) (omega arith)
  at_run (suc n) a at h e =
      at-opened (a + n) at (at_run n a at (λ y c d. h y c (omega arith)) e) (h (a + n) (omega arith) (omega arith)) ∙ ap (replies_length k D E hidden) (omega arith)

  pub at_skip : (a b at : ℕ) → a ≤ b → ((y : ℕ) → a ≤ y → y < b → opened E y ≡ true) → at ≡ replies_length k D E hidden a → at ≡ replies_length k D E hidden b
  at_skip a b at l h e =
      let z : a + (b - a) ≡ b = omega arith in
      at_run (b - a) a at (λ y c d. h y c (omega (arith, d, z))) e ∙ ap (replies_length k D E hidden) z

  pub at-kept : (x at to y : ℕ) → at ≡ replies_length k D E hidden x → opened E x ≡ false → y ≡ place E x → to ≡ at + reply_length k D (get_or hidden y 0 - 1)
      → to ≡ replies_length k D E hidden (x + 1)
  unfolding replies_length hidden_of
  at-kept x at to y e t p h =
      h
      ∙ (ap₂ (λ i j. i + reply_length k D (get_or hidden j 0 - 1)) e p
      ∙ sym (sum_more x (λ e. pick (opened E e) 0 (reply_length k D (get_or hidden (place E e) 0 - 1)))
      ∙ ap (λ z. sum x (λ e. pick (opened E e) 0 (reply_length k D (get_or hidden (place E e) 0 - 1))) + z) (pick_false (opened E x) 0 (reply_length k D (get_or hidden (place E x) 0 - 1)) t)))

  grows : (x n : ℕ) → x ≤ n → replies_length k D E hidden x ≤ replies_length k D E hidden n
  unfolding replies_length
  grows x n h =
      let rest : x + (n - x) ≡ n = omega arith in
      subst (λ (j : ℕ). sum x (λ e. pick (opened E e) 0 (reply_length k D (hidden_of E hidden e))) ≤ sum j (λ e. pick (opened E e) 0 (reply_length k D (hidden_of E hidden e)))) rest
      (sum_grows _ x (n - x))

  -- room for one more
  pub room_7 : (n x at y w : ℕ) → x < n → at ≡ replies_length k D E hidden x → opened E x ≡ false → y ≡ place E x → w ≡ replies_length k D E hidden n
      → at + reply_length k D (get_or hidden y 0 - 1) ≤ w
  room_7 n x at y w h e t p f =
      omega (arith, at-kept x at (at + reply_length k D (get_or hidden y 0 - 1)) y e t p refl, grows (x + 1) n (omega arith), f)

pub place_skip : (E : List ℕ) (a b : ℕ) → a ≤ b → ((y : ℕ) → a ≤ y → y < b → opened E y ≡ true) → place E b ≡ place E a
unfolding place
place_skip E a b l h = count_skip a b (λ j. not (opened E j)) l (λ y c d. ap not (h y c d))

-- ---- a turn of the walk over the kept executions

-- The walk, which stood at `from`, comes to execution x: those between are opened, x is kept, and its rank y and its reply's place are those that are counted.
pub record Turn (k : Numbers) (E hidden : List ℕ) (from x at y : ℕ) : Type 0 where
  pub passed : (j : ℕ) → from ≤ j → j < x → opened E j ≡ true
  pub kept : opened E x ≡ false
  pub rank : y ≡ place E x
  pub starts : at ≡ replies_length k k.depth E hidden x
  pub below : x < k.executions

pub turn_of : (k : Numbers) (E hidden : List ℕ) {e : List ℕ} {from end x at y : ℕ} → e ≡ E → end ≡ k.executions → from ≤ x → x < end
    → ((j : ℕ) → from ≤ j → j < x → not (opened e j) ≡ false) → not (opened e x) ≡ true → y ≡ place E from → at ≡ replies_length k k.depth E hidden from
    → Turn k E hidden from x at y
turn_of k E hidden {e} {from} {end} {x} {at} same last first below fails holds rank starts =
    let passed : (j : ℕ) → from ≤ j → j < x → opened E j ≡ true = λ j a b. was_true _ (rw same at (fails j a b)) in
    record {
      passed = passed;
      kept = was_false _ (rw same at holds);
      rank = rank ∙ sym (place_skip E from x first passed);
      starts = at_skip k k.depth E hidden from x at first passed starts;
      below = omega (arith, below, last);
    }

-- Then code computes the length of its reply, for which there is room.
pub turn_7 : (k : Numbers) (E hidden : List ℕ) {from x at y h r w : ℕ} → Turn k E hidden from x at y
    → h ≡ get_or hidden y 0 → ((K : Key) (P : Parts) (x : ℕ) → Of k K → opened P.p2 x ≡ false → get_or P.p6 (place P.p2 x) 0 ≡ h → r ≡ reply_size K P x)
    → w ≡ replies_length k k.depth E hidden k.executions → (r ≡ reply_length k k.depth (get_or hidden y 0 - 1)) × (at + r ≤ w)
turn_7 k E hidden {from} {x} {at} {y} {h} {r} {w} t is f all =
    let size : r ≡ reply_length k k.depth (get_or hidden y 0 - 1) = size_is k k.deep f ∙ ap (λ x. reply_length k k.depth (x - 1)) is in
    (size, omega (arith, size, room_7 k k.depth E hidden k.executions x at y w t.below t.starts t.kept t.rank all))

-- ---- the key
-- the length of the replies
pub long_is : (k : Numbers) (K : Key) (D : ℕ) (E hidden : List ℕ) → Of k K → Depth k.parties D → (n : ℕ) → replies_bytes K E hidden n ≡ replies_length k D E hidden n
unfolding replies_bytes reply_bytes replies_length reply_length
long_is k K D E hidden of deep n =
    sum_ext n (λ e h. rw (of.m_is, of.parties_is, deep.is K (sym of.parties_is)) refl)

pub long_7 : (k : Numbers) (K : Key) (D w : ℕ) (seeds secret E κ L hidden : List ℕ) → Of k K → Depth k.parties D → good_e K E ≡ true → good_hidden K hidden ≡ true → length κ ≡ 16
    → length (message7 K seeds secret E κ L hidden) ≡ w → w ≡ 16 + replies_length k D E hidden k.executions
long_7 k K D w seeds secret E κ L hidden of deep gE g_h long e =
    sym e
    ∙ (message7_length K seeds secret E L hidden gE g_h κ long
    ∙ ap (λ x. 16 + x) (long_is k K D E hidden of deep K.M ∙ ap (replies_length k D E hidden) (sym of.executions_is)))

pub hides_of : (k : Numbers) (K : Key) (E hidden : List ℕ) → Of k K → good_e K E ≡ true → good_hidden K hidden ≡ true → Hides k E hidden
unfolding good_hidden
hides_of k K E hidden of g h =
    record {
      at = λ x y c.
          let inside : place E x < length hidden = omega (arith, place-lt K E g x (omega (arith, of.executions_is)) c, hidden_length K hidden h) in
          let least : 1 ≤ get_or hidden (place E x) 0 =
          leb-true _ _ (every-at (length hidden) (λ j. leb 1 (get_or hidden j 0)) (holds-each _ h).1.0 (place E x) inside) in
          let most : get_or hidden (place E x) 0 ≤ K.N =
          leb-true _ _ (every-at (length hidden) (λ j. leb (get_or hidden j 0) K.N) (holds-each _ h).1.1.0 (place E x) inside) in
          (least, omega (arith, of.parties_is));
    }

-- the entries of the key stand in front
pub key_in : (k : Numbers) (K : Key) (l l₀ : List ℕ) (c : ℕ) → Of k K → c ≡ K.n * (K.m + 1) → l ≡ tab c K.entry ++ drop c l₀ → KeyIn k l K
key_in k K l l₀ c of ec is =
    record {
      of = of;
      entry = λ j h.
          let below : j < c = subst (λ (x : ℕ). j < x) (ap₂ (λ x y. x * (y + 1)) of.n_is of.m_is ∙ sym ec) h in
          sym (ap (λ x. get_or x j 0) is ∙ (get_or-append (tab c K.entry) (drop c l₀) 0 j (rw (tab-length c K.entry) below) ∙ tab-at c K.entry j below));
    }

pub message7_of : {k : Numbers} {K : Key} {seeds secret E κ L hidden entries out : List ℕ} → MessageIs k seeds secret E κ L hidden entries out → KeyIn k entries K
    → out ≡ message7 K seeds secret E κ L hidden
unfolding message7 kept
message7_of {k} {K} {seeds} {secret} {E} {κ} {L} {hidden} m given =
    m.is K given ∙ ap (λ n. κ ++ cat n (part_of K seeds secret E L hidden)) given.of.executions_is

-- the hidden party of execution x, where y kept executions come before it
pub hides_at : {k : Numbers} {E hidden : List ℕ} {x y : ℕ} → Hides k E hidden → x < k.executions → opened E x ≡ false → y ≡ place E x
    → (1 ≤ get_or hidden y 0) × (get_or hidden y 0 ≤ k.parties)
hides_at {k} {E} {hidden} {x} {y} so h t e =
    subst (λ (j : ℕ). (1 ≤ get_or hidden j 0) × (get_or hidden j 0 ≤ k.parties)) (sym e) (so.at x h t)
