-- What the judge reads from the parts of an honest transcript is what the prover put there.
-- Assumes nothing.
use Prim.Native.Nat.{ℕ, ◌+◌, ◌*◌, ◌<◌, ◌≤◌}
use mathlib.Core.Path.{◌≡◌, refl, sym, ◌∙◌, ap}
use mathlib.Core.Bool.{true, false}
use mathlib.Core.List.{List, [], ◌++◌, append_assoc, append-nil}
use native.Mathlib.Nat.{mod-eq_of_lt}
use native.Mathlib.Omega.{arith}
use borrow.Author.Tests.{eqb-true, leb-true, not-false}
use lib.ListN.{length, get_or, take, drop}
use lib.Seq.{take_at}
use Rattle.lists.specs.Index.{pick, cat, part}
use Rattle.lists.specs.Bytes.{num}
use Rattle.lists.specs.CatLaws.{cat-part, part_right, part-last}
use Rattle.lists.specs.TestLaws.{Clean, every-at, holds-each, pick_true, pick_false}
use Rattle.numbers.specs.Sum.{sum}
use Rattle.numbers.proofs.Inverse.{q_positive, q_most, q_least}
use Rattle.numbers.specs.Output.{Solves}
use Rattle.sha_core.specs.Digest.{sha256-length}
use Rattle.tree.specs.Tree.{reopened}
use Rattle.tree.specs.TreeLaws.{reopens}
use Rattle.protocol.specs.Key.{Key, A, t, depth, kept_count}
use Rattle.protocol.specs.Shares.{H, View, Ωin, dealt}
use Rattle.protocol.specs.Prover.{opened, rank, place, kept, hidden_of, master, prover_view, hπin, message3, message7, good_e, good_hidden, solves, binary, statement_checks, checks5, checks7}
use Rattle.protocol.specs.Transcript.{Parts}
use Rattle.protocol.specs.Honest.{honest_parts}
use Rattle.protocol.specs.Judge.{hidden, given_count, reply_size, reply_at, given, master_at, Ω_at, hπ_at, kept_view}
use Rattle.protocol.specs.Accepts.{GoodKey}
use Rattle.protocol.proofs.KeyFacts.{depth_n, t_lt}
use Rattle.protocol.proofs.Opened.{opened-count, kept-count}
use Rattle.protocol.proofs.HonestSum.{dealt-whole, dealt_d_n_lt, dealt_s_n_lt}
use Rattle.protocol.proofs.Sees.{Sees}
use Rattle.protocol.proofs.Sizes.{master_length, opened-length, kept-length, hidden_lt, reply_bytes, replies_bytes, reply_of, reply_of_length, replies_length_lem}
use Rattle.protocol.proofs.Reply.{reply_seeds, reply_Γ, reply_α, reply_o, reply_d, reply_s, reply-lt}

-- What the prover's checks say of its inputs.
pub record Valid (K : Key) (seeds secret E κ L hid : List ℕ) : Type 0 where
  pub seeds_long : length seeds ≡ 16 * K.M
  pub κ_long : length κ ≡ 16
  pub l_long : length L ≡ 16
  pub e_good : good_e K E ≡ true
  pub hidden_good : good_hidden K hid ≡ true
  pub solution : Solves K.q K.n K.m (A K) (t K) (λ k. get_or secret k 0)

-- A·x = t and x binary, as the tests say it.
pub solved : (K : Key) → GoodKey K → (x : ℕ → ℕ) → binary K x ≡ true → solves K x ≡ true → Solves K.q K.n K.m (A K) (t K) x
unfolding binary solves
solved K G x b c =
    record {
      target = λ l h. record { same = eqb-true _ _ (every-at K.n _ c l h) ∙ sym (mod-eq_of_lt (t_lt K G l h)) };
      binary = λ k h.
          let small : x k ≤ 1 = leb-true (x k) 1 (every-at K.m _ b k h) in
          rw (mod-eq_of_lt {n = x k} {m = K.q} (omega (arith, q_least G.q))) small;
    }

pub valid : (K : Key) (seeds secret E κ L hid : List ℕ) → GoodKey K → Clean (checks7 K seeds secret E κ L hid) → Valid K seeds secret E κ L hid
unfolding checks7 checks5 statement_checks
valid K seeds secret E κ L hid G c =
    let l = holds-each _ (not-false _ c.0) in
    record {
      seeds_long = eqb-true _ _ l.0;
      κ_long = eqb-true _ _ l.1.1.0;
      l_long = eqb-true _ _ l.1.1.1.0;
      e_good = not-false _ c.1.0;
      hidden_good = not-false _ c.1.1.1.1.0;
      solution = solved K G (λ k. get_or secret k 0) (not-false _ c.1.1.0) (not-false _ c.1.1.1.0);
    }

module _ (K : Key) (seeds secret E κ L hid : List ℕ) (G : GoodKey K) (I : Valid K seeds secret E κ L hid) where
  abbrev P : Parts
  P = honest_parts K seeds secret E κ L hid

  abbrev whole : ℕ → View
  whole e = prover_view K seeds secret e

  -- Part 3.
  masters : List ℕ
  masters = cat K.M (λ e. pick (opened E e) (master K seeds secret e) [])

  omegas : List ℕ
  omegas = cat K.M (λ e. pick (opened E e) [] (H (Ωin K (whole e))))

  third : message3 K seeds secret E κ ≡ masters ++ (omegas ++ H (hπin K whole E κ))
  unfolding message3 kept masters omegas
  third = append_assoc masters omegas (H (hπin K whole E κ))

  masters_length : length masters ≡ 16 * K.τ
  unfolding masters
  masters_length =
      opened-length E K.M 16 (master K seeds secret) (master_length K seeds secret I.seeds_long)
      ∙ ap (λ x. 16 * x) (opened-count K E I.e_good)

  omegas_length : length omegas ≡ 32 * kept_count K
  unfolding omegas
  omegas_length =
      kept-length E K.M 32 (λ e. H (Ωin K (whole e))) (λ e h. sha256-length _) ∙ ap (λ x. 32 * x) (kept-count K E I.e_good)

  pub master_at_lem : (e : ℕ) → e < K.M → opened E e ≡ true → master_at K P e ≡ master K seeds secret e
  unfolding master_at rank masters
  master_at_lem e h c =
      ap (λ x. part x (16 * rank E e) 16) third
      ∙ cat-part K.M (λ e. pick (opened E e) (master K seeds secret e) []) (omegas ++ H (hπin K whole E κ)) e (16 * rank E e) 16 h
      (opened-length E e 16 (master K seeds secret) (λ i y. master_length K seeds secret I.seeds_long i (omega arith)))
      (ap length (pick_true (opened E e) (master K seeds secret e) [] c) ∙ master_length K seeds secret I.seeds_long e h)
      ∙ pick_true (opened E e) (master K seeds secret e) [] c

  pub Ω_at_lem : (e : ℕ) → e < K.M → opened E e ≡ false → Ω_at K P e ≡ H (Ωin K (whole e))
  unfolding Ω_at place omegas
  Ω_at_lem e h c =
      ap (λ x. part x (16 * K.τ + 32 * place E e) 32) third
      ∙ part_right masters (omegas ++ H (hπin K whole E κ)) (16 * K.τ) (32 * place E e) 32 masters_length
      ∙ cat-part K.M (λ e. pick (opened E e) [] (H (Ωin K (whole e)))) (H (hπin K whole E κ)) e (32 * place E e) 32 h
      (kept-length E e 32 (λ i. H (Ωin K (whole i))) (λ i y. sha256-length _))
      (ap length (pick_false (opened E e) [] (H (Ωin K (whole e))) c) ∙ sha256-length _)
      ∙ pick_false (opened E e) [] (H (Ωin K (whole e))) c

  pub hπ_at_lem : hπ_at K P ≡ H (hπin K whole E κ)
  unfolding hπ_at
  hπ_at_lem =
      ap (λ x. part x (16 * K.τ + 32 * kept_count K) 32) third
      ∙ part_right masters (omegas ++ H (hπin K whole E κ)) (16 * K.τ) (32 * kept_count K) 32 masters_length
      ∙ part-last omegas (H (hπin K whole E κ)) (32 * kept_count K) 32 omegas_length (sha256-length _)

  -- Part 7.
  abbrev given_reply : ℕ → List ℕ
  given_reply e = reply_of K seeds secret E L hid I.e_good I.hidden_good e

  pub κ_at : take 16 P.p7 ≡ κ
  unfolding message7
  κ_at = take_at κ _ 16 I.κ_long

  size_is : (e : ℕ) → reply_size K P e ≡ pick (opened E e) 0 (reply_bytes K (hidden_of E hid e))
  unfolding reply_size given_count hidden reply_bytes
  size_is e = refl

  pub sizes_are : (n : ℕ) → sum n (reply_size K P) ≡ replies_bytes K E hid n
  unfolding reply_size given_count hidden reply_bytes replies_bytes
  sizes_are n = refl

  pub reply-at : (e : ℕ) → e < K.M → opened E e ≡ false → reply_at K P e ≡ given_reply e
  unfolding reply_at message7 kept
  reply-at e h c =
      part_right κ _ 16 (sum e (reply_size K P)) (reply_size K P e) I.κ_long
      ∙ ap (λ x. part x (sum e (reply_size K P)) (reply_size K P e)) (sym (append-nil _))
      ∙ cat-part K.M (λ e. pick (opened E e) [] (given_reply e)) [] e (sum e (reply_size K P)) (reply_size K P e) h
      (replies_length_lem K seeds secret E L hid I.e_good I.hidden_good e (omega arith) ∙ sym (sizes_are e))
      (ap length (pick_false (opened E e) [] (given_reply e) c)
      ∙ reply_of_length K seeds secret E L hid I.e_good I.hidden_good e h c
      ∙ sym (size_is e ∙ pick_false (opened E e) 0 _ c))
      ∙ pick_false (opened E e) [] (given_reply e) c

  -- A kept execution as the judge sees it.
  module _ (e : ℕ) (h : e < K.M) (c : opened E e ≡ false) where
    abbrev hides : ℕ
    hides = hidden_of E hid e

    abbrev seed : List ℕ
    seed = master K seeds secret e

    inside : hides < K.N
    inside = hidden_lt K E hid I.e_good I.hidden_good e h c

    whole_hid : (whole e).hid ≡ K.N
    unfolding prover_view
    whole_hid = dealt-whole K e seed _

    d_lt : (k : ℕ) → (whole e).d_n k < K.q
    unfolding prover_view
    d_lt k = dealt_d_n_lt K e seed _ G.q G.N k

    s_lt : (k : ℕ) → (whole e).s_n k < K.q
    unfolding prover_view
    s_lt k = dealt_s_n_lt K e seed _ G.q G.N k

    q_small : K.q ≤ 4294967296
    q_small = omega (arith, q_most G.q)

    -- number j of the reply
    given_is : (j : ℕ) → given K P e j ≡ num (drop (16 * depth K + 32) (given_reply e)) j
    unfolding given
    given_is j = ap (λ x. num (drop (16 * depth K + 32) x) j) (reply-at e h c)

    seed_is : (i : ℕ) → i < K.N → (i ≡ hides → ⊥) → (kept_view K P e).seed i ≡ (whole e).seed i
    unfolding kept_view hidden prover_view dealt
    seed_is i y other =
        ap (λ x. reopened (depth K) hides x i)
        (ap (take (16 * depth K)) (reply-at e h c)
        ∙ reply_seeds K (whole e) seed L hides whole_hid inside q_small (q_positive G.q) d_lt s_lt)
        ∙ reopens (depth K) seed hides i (omega (arith, depth_n K G.N, inside)) (omega (arith, depth_n K G.N)) other

    pub sees : Sees K L (whole e) (kept_view K P e)
    unfolding kept_view hidden prover_view dealt
    sees =
        record {
          ex = refl;
          whole = whole_hid;
          inside = inside;
          seed = seed_is;
          Γh =
              ap (λ x. part x (16 * depth K) 32) (reply-at e h c)
              ∙ reply_Γ K (whole e) seed L hides whole_hid inside q_small (q_positive G.q) d_lt s_lt;
          αh = λ k y. given_is k ∙ reply_α K (whole e) seed L hides whole_hid inside q_small (q_positive G.q) d_lt s_lt k y;
          oh = given_is K.m ∙ reply_o K (whole e) seed L hides whole_hid inside q_small (q_positive G.q) d_lt s_lt;
          d_n = λ other k y.
              given_is (K.m + 1 + k) ∙ reply_d K (whole e) seed L hides whole_hid inside q_small (q_positive G.q) d_lt s_lt other k y;
          s_n = λ other k y.
              given_is (2 * K.m + 1 + k) ∙ reply_s K (whole e) seed L hides whole_hid inside q_small (q_positive G.q) d_lt s_lt other k y;
        }

    pub given_lt : (j : ℕ) → j < given_count K P e → given K P e j < K.q
    unfolding given_count hidden
    given_lt j y =
        rw (given_is j) (reply-lt K (whole e) seed L hides whole_hid inside q_small (q_positive G.q) d_lt s_lt j y)
