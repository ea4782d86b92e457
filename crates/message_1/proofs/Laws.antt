-- Laws for message 1.
-- Assumes nothing.
use Prim.Native.Nat.{ℕ, ◌+◌, ◌*◌}
use mathlib.Core.Path.{◌≡◌, sym, ◌∙◌, ap}
use mathlib.Core.List.{List, []}
use lib.ListN.{get_or}
use Rattle.lists.specs.Index.{cat, part}
use Rattle.lists.specs.CatLaws.{cat-more}
use Rattle.sha.specs.State.{Stands, Fed, fed_join, fed_nil}
use Rattle.sha.specs.declared.Sha.{Sha}
use Rattle.sha_core.specs.Fips180.{sha256}
use Rattle.protocol.specs.Shares.{hin, input}
use Rattle.protocol.specs.Prover.{prover_view, message1, hΓin}
use Rattle.execution.specs.Begun.{Begun}
use Rattle.views.specs.Opened.{OpenedHash}
use Rattle.message_1.specs.Parts.{FedH, First}

pub h_none : (q m N D : ℕ) (seeds : List ℕ) (s : Sha) → FedH q m N D seeds s 0 s
unfolding cat
h_none q m N D seeds s = record { fed = λ K sized deep. fed_nil s }

pub h_more : {q m N D : ℕ} {seeds : List ℕ} {s₀ s t : Sha} (x : ℕ) {r : List ℕ} → FedH q m N D seeds s₀ x s
    → OpenedHash q m N D x (part seeds (16 * x) 16) r → Fed s r t → FedH q m N D seeds s₀ (x + 1) t
unfolding prover_view
h_more {q} {m} {N} {D} {seeds} x a h b =
    record {
      fed = λ K sized deep.
          rw (cat-more x (λ e. sha256 (hin K (prover_view K seeds [] e))), ← h.is K (λ k. get_or [] k 0) sized deep) (fed_join (a.fed K sized deep) b);
    }

pub h_all : {q m N M D : ℕ} {seeds : List ℕ} {s₀ s : Sha} (x : ℕ) {r : List ℕ} → Begun 1 0 0 s₀ → FedH q m N D seeds s₀ x s → x ≡ M
    → ((d : List ℕ) → Stands s d → r ≡ sha256 d) → First q m N M D seeds r
unfolding message1 hΓin
h_all {seeds} x begun a e f =
    record { is = λ K sized M deep. f _ (begun.stands _ _ (a.fed K sized deep)) ∙ ap (λ n. sha256 (input 1 0 0 (cat n (λ e. sha256 (hin K (prover_view K seeds [] e)))))) (e ∙ sym M) }
