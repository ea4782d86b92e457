-- The lengths of the prover's messages are small.
-- Assumes nothing.
use Prim.Native.Nat.{ℕ, ◌≤◌}
use mathlib.Core.List.{List}
use mathlib.Core.Path.{◌≡◌, refl, sym, subst}
use native.Mathlib.Omega.{arith}
use lib.ListN.{length}
use Rattle.lists.specs.Check.{Verdict, accepted, refused}
use Rattle.lists.specs.TestLaws.{clean}
use Rattle.protocol.specs.Key.{key_of}
use Rattle.protocol.specs.Prover.{message1, message3, message5, message7, verdict1, verdict3, verdict5, verdict7}
use Rattle.protocol.proofs.KeyFacts.{good}
use Rattle.protocol.proofs.Sizes.{message1-length, message3_length, message5_length, message7_length, replies_most}
use Rattle.prover.specs.Answers.{Answer, answer_of}
use Rattle.prover.proofs.Laws.{passed3, inputs_of3, passed7, inputs_of7}
use Rattle.answer.specs.Codes.{length_of}

bounded : (v : Verdict) (message : List ℕ) → (v ≡ accepted → length message ≤ 100000) → length_of (answer_of v message) ≤ 100000
bounded accepted message h = h refl
bounded (refused n) message h = omega arith

small : {a : Answer} (v : Verdict) (message : List ℕ) → (v ≡ accepted → length message ≤ 100000) → a ≡ answer_of v message → length_of a ≤ 100000
small v message h e = subst (λ (x : Answer). length_of x ≤ 100000) (sym e) (bounded v message h)

pub small_1 : (key seeds : List ℕ) (size from work entry : ℕ) {a : Answer} → a ≡ answer_of (verdict1 key seeds size from work entry) (message1 (key_of key) seeds)
    → length_of a ≤ 100000
small_1 key seeds size from work entry =
    small (verdict1 key seeds size from work entry) (message1 (key_of key) seeds) (λ _. omega (arith, message1-length (key_of key) seeds))

pub small_3 : (key seeds secret E κ : List ℕ) (size from work entry : ℕ) {a : Answer}
    → a ≡ answer_of (verdict3 key seeds secret E κ size from work entry) (message3 (key_of key) seeds secret E κ) → length_of a ≤ 100000
small_3 key seeds secret E κ size from work entry =
    small (verdict3 key seeds secret E κ size from work entry) (message3 (key_of key) seeds secret E κ)
    (λ e.
    let p = passed3 key seeds secret E κ size from work entry e in
    let i = inputs_of3 (key_of key) seeds secret E κ p.inputs in
    let G = good (key_of key) key (clean _ p.of_key) in
    omega (arith, message3_length (key_of key) seeds secret E κ i.seeds_long i.good, G.τ_below, G.executions_most))

pub small_5 : (key seeds secret E κ L : List ℕ) (size from work entry : ℕ) {a : Answer}
    → a ≡ answer_of (verdict5 key seeds secret E κ L size from work entry) (message5 (key_of key) seeds secret E κ L) → length_of a ≤ 100000
small_5 key seeds secret E κ L size from work entry =
    small (verdict5 key seeds secret E κ L size from work entry) (message5 (key_of key) seeds secret E κ L)
    (λ _. omega (arith, message5_length (key_of key) seeds secret E κ L))

pub small_7 : (key seeds secret E κ L hidden : List ℕ) (size from work entry : ℕ) {a : Answer}
    → a ≡ answer_of (verdict7 key seeds secret E κ L hidden size from work entry) (message7 (key_of key) seeds secret E κ L hidden) → length_of a ≤ 100000
small_7 key seeds secret E κ L hidden size from work entry =
    small (verdict7 key seeds secret E κ L hidden size from work entry) (message7 (key_of key) seeds secret E κ L hidden)
    (λ e.
    let p = passed7 key seeds secret E κ L hidden size from work entry e in
    let i = inputs_of7 (key_of key) seeds secret E κ L hidden p.inputs in
    let G = good (key_of key) key (clean _ p.of_key) in
    omega (
      arith,
      message7_length (key_of key) seeds secret E L hidden i.0.good i.2 κ i.0.κ_long,
      replies_most (key_of key) G E hidden,
      G.executions_most,
    ))
