-- The lists of an execution that was reopened hold what its hashes take.
-- Assumes nothing.
use Prim.Native.Nat.{ℕ, suc, ◌+◌, ◌*◌, ◌-◌, ◌%◌, ◌<◌, ◌≤◌}
use mathlib.Core.Path.{◌≡◌, refl, sym, ◌∙◌, ap, ap₂, subst}
use mathlib.Core.List.{List, ◌++◌, append-nil}
use native.Mathlib.Omega.{arith}
use mathlib.Core.Bool.{Bool}
use lib.Dec.{eqb}
use lib.ListN.{length, get_or, take, drop, replicate, length-drop, drop_of_length-le, get_or-append}
use lib.Seq.{take_all}
use Rattle.lists.specs.Tab.{tab, tab-at, tab-length}
use Rattle.lists.specs.Index.{part}
use Rattle.lists.specs.Bytes.{num, words}
use Rattle.numbers.specs.Sum.{sum}
use Rattle.sha_core.specs.Fips180.{sha256}
use Rattle.streams.specs.Streams.{block}
use Rattle.protocol.specs.Key.{Key}
use Rattle.protocol.specs.Shares.{View, input, b, s, αsum, o, hin, Ωin, Πin}
use Rattle.protocol.specs.Transcript.{Parts}
use Rattle.protocol.specs.Judge.{hidden, given, κ, kept_view}
use Rattle.execution.proofs.Held.{d_last, s_last}
use Rattle.execution.specs.Shown.{Holds, Shown, place_of}
use Rattle.execution.specs.Lists.{alpha_at}
use Rattle.views.specs.Seen.{ForH, ForΩ, ForΠ}
use Rattle.views.proofs.Laws.{sums_is, psi_is, outputs-sum}
use Rattle.outputs.specs.Stated.{Stated}
use Rattle.kept.specs.Kept.{Shared, Answered, KeptIn, Evaluates}

-- the part of a list from a place to its end
pub to_end : (x : List ℕ) (a : ℕ) → take (length x - a) (drop a x) ≡ drop a x
to_end x a = take_all (length x - a) (drop a x) (rw (length-drop a x) (omega arith))

module _ {q n m N D hid e : ℕ} {reply kappa seed entries : List ℕ} {K : Key} {P : Parts} (so : KeptIn q n m N D hid e reply kappa seed entries K P) {leaves work : List ℕ} (S : Shown K (kept_view K P e) leaves work) (some : 1 ≤ N) where
  last : suc (K.N - 1) ≡ K.N
  last = omega (arith, so.sized.parties)

  open_last : (suc hid ≡ N → ⊥) → K.N - 1 ≡ hidden K P e → ⊥
  open_last other z = other (omega (arith, so.hides, so.sized.parties))

  pub kept_for_h : ForH m N hid e (take (16 * D + 32 - 16 * D) (drop (16 * D) reply)) leaves work K (kept_view K P e)
  unfolding kept_view
  kept_for_h =
      let w : 32 ≡ 16 * D + 32 - 16 * D = omega arith in
      record {
        columns = so.sized.columns;
        parties = so.sized.parties;
        ex = refl;
        hidden = so.hides;
        Γh = λ h. ap₂ (λ (x : List ℕ) (y : ℕ). part x (16 * y) 32) so.at so.deep ∙ ap (λ (x : ℕ). take x (drop (16 * D) reply)) w;
        seeds = S.seeds;
        d_n = λ other k h.
            sym (d_last K (kept_view K P e) k (K.N - 1) last)
            ∙ (sym (S.ds.at k (K.N - 1) (omega (arith, so.sized.columns)) (omega (arith, last)) (open_last other))
            ∙ ap₂ (λ (x y : ℕ). get_or work (place_of x (y - 1) (x + k)) 0) so.sized.columns so.sized.parties);
      }

  pub kept_for_Ω : (suc hid ≡ N → ⊥) → ForΩ m N e leaves work K (kept_view K P e)
  unfolding kept_view
  kept_for_Ω other =
      record {
        columns = so.sized.columns;
        parties = so.sized.parties;
        ex = refl;
        seed = subst (λ (x : ℕ). part leaves (16 * (x - 1)) 16 ≡ (kept_view K P e).seed (x - 1)) so.sized.parties
            (S.seeds.at (K.N - 1) (omega (arith, last)) (open_last other));
        s_n = λ k h.
            sym (s_last K (kept_view K P e) k (K.N - 1) last)
            ∙ (sym (S.ss.at k (K.N - 1) (omega (arith, so.sized.columns)) (omega (arith, last)) (open_last other))
            ∙ ap₂ (λ (x y : ℕ). get_or work (place_of x (y - 1) (2 * x + k)) 0) so.sized.columns so.sized.parties);
      }

  -- number j of what follows the opened seeds and Γ
  given_at : (j : ℕ) → given K P e j ≡ num (take (length reply - (16 * D + 32)) (drop (16 * D + 32) reply)) j
  unfolding given
  given_at j =
      ap₂ (λ (x : List ℕ) (y : ℕ). num (drop (16 * y + 32) x) j) so.at so.deep
      ∙ sym (ap (λ (x : List ℕ). num x j) (to_end reply (16 * D + 32)))

  pub kept_shared : Shared q n m N hid e (take (length reply - (16 * D + 32)) (drop (16 * D + 32) reply)) entries work K (kept_view K P e)
  unfolding kept_view
  kept_shared =
      record {
        sized = so.sized;
        rows = so.rows;
        entry = so.entry;
        ex = refl;
        hidden = so.hides;
        αh = λ k h. given_at k;
        oh = given_at K.m ∙ ap (num (take (length reply - (16 * D + 32)) (drop (16 * D + 32) reply))) so.sized.columns;
        bs = S.bs;
        ds = S.ds;
        ss = S.ss;
      }

  -- party N is hidden
  hides_last : suc hid ≡ N → suc (hidden K P e) ≡ K.N
  hides_last z = omega (arith, so.hides, so.sized.parties)

  last_hides : suc (hidden K P e) ≡ K.N → suc hid ≡ N
  last_hides z = omega (arith, so.hides, so.sized.parties)

  pub evaluates : {h om pi psi : List ℕ} {zero : Bool} → h ≡ sha256 (hin K (kept_view K P e)) → (suc hid ≡ N → om ≡ replicate 32 0)
      → ((suc hid ≡ N → ⊥) → (v : View) → ForΩ m N e leaves work K v → om ≡ sha256 (Ωin K v))
      → Answered K (kept_view K P e) kappa seed pi psi zero → Evaluates K P e h om pi psi zero
  evaluates {h} {om} {pi} {psi} {zero} x w y z =
      record {
        h_is = x;
        Ω_is = λ other. y (λ l. other (hides_last l)) (kept_view K P e) (kept_for_Ω (λ l. other (hides_last l)));
        Ω_hidden = λ last. w (last_hides last);
        answers =
            subst (λ (k : List ℕ). Answered K (kept_view K P e) k P.p4 pi psi zero) (sym so.κ_is)
            (subst (λ (l : List ℕ). Answered K (kept_view K P e) kappa l pi psi zero) (sym so.l_is) z);
      }

-- ---- Π, Ψ and the sum of the outputs
module _ {q n m N hid e : ℕ} {given entries work : List ℕ} {K : Key} {v : View} (so : Shared q n m N hid e given entries work K v) where
  here : (P : ℕ → ℕ → ℕ → Type 0) → P K.m K.N v.hid → P m N hid
  here P h =
      subst (λ (x : ℕ). P x N hid) so.sized.columns (subst (λ (x : ℕ). P K.m x hid) so.sized.parties (subst (λ (x : ℕ). P K.m K.N x) so.hidden h))

  pub shared_for_Π : ForΠ q m N hid e given work K v
  shared_for_Π =
      record {
        sized = so.sized;
        ex = so.ex;
        hidden = so.hidden;
        αh = λ _ k h. so.αh k h;
        bs = here (λ x y z. Holds x y z 0 work (b K v)) so.bs;
        ss = here (λ x y z. Holds x y z (2 * x) work (s K v)) so.ss;
      }

  module _ {sums : List ℕ} (rest : List ℕ) (is : sums ≡ tab m (λ k. sum N (alpha_at q m hid given work k) % q) ++ rest) where
    sum-at : (k : ℕ) → k < m → get_or sums k 0 ≡ αsum K v k
    sum-at k h =
        ap (λ (x : List ℕ). get_or x k 0) (is ∙ ap (λ (x : List ℕ). x ++ rest) (sums_is shared_for_Π))
        ∙ (get_or-append (tab m (αsum K v)) rest 0 k (rw (tab-length m (αsum K v)) h) ∙ tab-at m (αsum K v) k h)

    pub shared_stated : {x : ℕ} → x ≡ num given m → Stated q n m N hid e x entries sums work K v
    shared_stated {x} is-o =
        record {
          sized = so.sized;
          rows = so.rows;
          entry = so.entry;
          ex = so.ex;
          hidden = so.hidden;
          shown = so.oh ∙ sym is-o;
          bs = so.bs;
          ds = so.ds;
          ss = so.ss;
          sums = λ k h. sum-at k (omega (arith, so.sized.columns));
        }

  -- the outputs fill their list
  outs_are : (L before : List ℕ) {outs : List ℕ} → length before ≡ N → outs ≡ tab N (o K v L) ++ drop N before → outs ≡ tab K.N (o K v L)
  outs_are L before {outs} long is =
      is
      ∙ (ap (λ (x : List ℕ). tab N (o K v L) ++ x) (drop_of_length-le before {i = N} (omega (arith, long)))
      ∙ (append-nil (tab N (o K v L)) ∙ ap (λ (x : ℕ). tab x (o K v L)) (sym so.sized.parties)))

  pub answered : (L κ before : List ℕ) {outs pi psi : List ℕ} {zero : Bool} → length before ≡ N → outs ≡ tab N (o K v L) ++ drop N before
      → pi ≡ sha256 (Πin K v κ) → psi ≡ sha256 (input 8 (e + 1) 0 (words outs ++ block κ (2 * e + 1)))
      → zero ≡ eqb (sum (length outs) (λ i. get_or outs i 0) % q) 0 → Answered K v κ L pi psi zero
  answered L κ before {outs} {pi} {psi} {zero} long is p s z =
      record {
        Π_is = p;
        Ψ_is = s ∙ ap sha256 (psi_is K v κ L so.ex (outs_are L before long is));
        zero_is = z ∙ ap₂ (λ (x y : ℕ). eqb (x % y) 0) (outputs-sum K v L (outs_are L before long is)) (sym so.sized.modulus);
      }
