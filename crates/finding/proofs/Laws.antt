-- From a spot and the joined values to what the pair reader answers.
-- Assumes nothing.
use Prim.Native.Nat.{ℕ, suc, ◌+◌, ◌≤◌}
use mathlib.Core.Path.{◌≡◌, refl, sym, ◌∙◌, ap, subst}
use mathlib.Core.Bool.{Bool, true, false}
use mathlib.Core.List.{List, ◌++◌}
use native.Mathlib.Numerals.{add-one}
use native.Mathlib.Omega.{arith}
use Rattle.std.specs.Prelude.{Option, Some, None, Result, Ok}
use lib.Dec.{ltb}
use lib.ListN.{length, drop}
use Rattle.lists.specs.Index.{pick}
use Rattle.lists.specs.CatLaws.{part_length}
use Rattle.protocol.specs.Key.{Key, kept_count}
use Rattle.protocol.specs.Transcript.{Parts}
use Rattle.protocol.specs.Pair.{Reading, refusal, collision, secret, square, errors, first_different, comparisons, values, found_as, value_list}
use Rattle.compare.specs.declared.Kind.{Kind}
use Rattle.compare.specs.declared.Source.{Source}
use Rattle.compare.specs.declared.Source.TheVariants.{Lists, Execution}
use Rattle.compare.specs.declared.Spot.{Spot}
use Rattle.compare.specs.Kinds.{number, party_number}
use Rattle.compare.specs.Spots.{Inside, sourced, shown, first_spot, read_at, on_all}
use Rattle.compare.proofs.Laws.{first_read}
use Rattle.refusals.specs.declared.Refusal.{Refusal}
use Rattle.reading.specs.declared.Finding.{Finding}
use Rattle.reading.specs.declared.Finding.TheVariants.{Collision}
use Rattle.reading.specs.Answers.{hash1_of, hash2_of}
use Rattle.reading.specs.Found.{wrong_at, is_secret, found, Finds, values_found}
use Rattle.finding.specs.Known.{Known, found_in}
use Rattle.finding.specs.Reads.{Reads}

-- ---- a spot in its list
sourced_length : (s : Source) (l x : List ℕ) → length (sourced s l x) ≡ sourced s (length l) (length x)
sourced_length Lists l x = refl
sourced_length Execution l x = refl

pub shown-long : (r : Spot) (l x : List ℕ) → Inside (length l) (length x) r → length (shown r l x) ≡ r.length
shown-long r l x i =
    part_length (sourced r.source l x) r.from r.length (omega (arith, i.within, sourced_length r.source l x))

pub inside-at : {a b c d : ℕ} (r : Spot) → a ≡ c → b ≡ d → Inside c d r → Inside a b r
inside-at {a} {b} {c} {d} r e f i = subst (λ (n : ℕ). Inside n b r) (sym e) (subst (λ (n : ℕ). Inside c n r) (sym f) i)

-- ---- what is read
-- findings 2 to 4 leave both hash buffers
abbrev Plain : Reading → Type 0
Plain (refusal n) = Unit {0}
Plain (collision kind e party one two) = ⊥
Plain (secret bits) = Unit {0}
Plain (square e k b d) = Unit {0}
Plain (errors e l) = Unit {0}

plain_hash1 : (x : Reading) (h : List ℕ) → Plain x → h ≡ hash1_of x h
plain_hash1 (refusal n) h p = refl
plain_hash1 (collision kind e party one two) h p = absurd p
plain_hash1 (secret bits) h p = refl
plain_hash1 (square e k b d) h p = refl
plain_hash1 (errors e l) h p = refl

plain_hash2 : (x : Reading) (h : List ℕ) → Plain x → h ≡ hash2_of x h
plain_hash2 (refusal n) h p = refl
plain_hash2 (collision kind e party one two) h p = absurd p
plain_hash2 (secret bits) h p = refl
plain_hash2 (square e k b d) h p = refl
plain_hash2 (errors e l) h p = refl

plain_pick : (t u : Bool) (a b c : Reading) → Plain a → Plain b → Plain c → Plain (pick t a (pick u b c))
plain_pick true u a b c x y z = x
plain_pick false true a b c x y z = y
plain_pick false false a b c x y z = z

found_plain : (K : Key) (e : ℕ) (x : List ℕ) → Plain (found K e x)
unfolding found
found_plain K e x = plain_pick (is_secret K x) (ltb (wrong_at K.q K.m x) K.m) _ _ _ tt tt tt

pub reads_found : (K : Key) (e : ℕ) (sums : List ℕ) {x : Reading} {r : Result Finding Refusal} (h1 h2 : List ℕ) {bits bits' errs errs' : List ℕ} → x ≡ found K e sums
    → Finds (found K e sums) r bits bits' errs errs' → Reads x r h1 h1 h2 h2 bits bits' errs errs'
reads_found K e sums {x} {r} h1 h2 {bits} {bits'} {errs} {errs'} is f =
    subst (λ (y : Reading). Reads y r h1 h1 h2 h2 bits bits' errs errs') (sym is)
    (record {
      answer = f.answer;
      hash1 = plain_hash1 (found K e sums) h1 (found_plain K e sums);
      hash2 = plain_hash2 (found K e sums) h2 (found_plain K e sums);
      secret = f.secret;
      uv = f.uv;
    })

-- a collision leaves the secret output and the u and v list
pub reads_collision : (kind : Kind) (e : ℕ) (party : Option ℕ) (n : ℕ) (one two h1 h2 bits errs : List ℕ) {x : Reading} {ys zs : List ℕ} → x ≡ collision (number kind) (suc e) (party_number party) one two
    → length one ≡ n → length two ≡ n → ys ≡ one → zs ≡ two
    → Reads x (Ok (Collision kind (e + 1) party n)) h1 (ys ++ drop n h1) h2 (zs ++ drop n h2) bits bits errs errs
reads_collision kind e party n one two h1 h2 bits errs {x} {ys} {zs} is l1 l2 e1 e2 =
    subst (λ (y : Reading). Reads y (Ok (Collision kind (e + 1) party n)) h1 (ys ++ drop n h1) h2 (zs ++ drop n h2) bits bits errs errs) (sym is)
    (record {
      answer = λ i. found_as 1 (value_list (number kind) (add-one e i) (party_number party) (l1' i) 0 0 0);
      hash1 = λ i. e1 i ++ drop (l1' i) h1;
      hash2 = λ i. e2 i ++ drop (l2' i) h2;
      secret = refl;
      uv = refl;
    })
  where
    l1' : n ≡ length one
    l1' = sym l1

    l2' : n ≡ length two
    l2' = sym l2

-- ---- what is found in the lists
module _ (K : Key) (e h1 h2 : ℕ) (l1 l2 i1 i2 sums : List ℕ) where
  pub in_none : None ≡ first_spot (on_all K.m K.N K.M (kept_count K) h1 h2) l1 l2 i1 i2 → found_in K e h1 h2 l1 l2 i1 i2 sums ≡ found K e sums
  unfolding found_in
  in_none z = ap (read_at l1 l2 i1 i2 (suc e) (found K e sums)) (sym z)

  pub in_spot : (r : Spot) → Some r ≡ first_spot (on_all K.m K.N K.M (kept_count K) h1 h2) l1 l2 i1 i2
      → found_in K e h1 h2 l1 l2 i1 i2 sums ≡ collision (number r.kind) (suc e) (party_number r.party) (shown r l1 i1) (shown r l2 i2)
  unfolding found_in
  in_spot r z = ap (read_at l1 l2 i1 i2 (suc e) (found K e sums)) (sym z)

  -- Where the lists hold the hash inputs and joined values of two transcripts, it is the finding of document 01.
  pub known_found : (P R : Parts) → 2 ≤ K.N → Known K P R e h1 h2 l1 l2 i1 i2 sums
      → found_in K e h1 h2 l1 l2 i1 i2 sums ≡ first_different (suc e) (comparisons K P R e) (values K P R e)
  unfolding found_in
  known_found P R two k =
      sym
      (ap (first_different (suc e) (comparisons K P R e)) (values_found K P R e sums k.joined)
      ∙ first_read K P R e h1 h2 l1 l2 i1 i2 k.listed1 k.listed2 k.written1 k.written2 k.hides1 k.hides2 k.kept1 k.kept2 two (found K e sums))

pub reads_known : {K : Key} {P R : Parts} {e h1 h2 : ℕ} {l1 l2 i1 i2 sums a a' b b' bits bits' errs errs' : List ℕ} {r : Result Finding Refusal}
    → Reads (found_in K e h1 h2 l1 l2 i1 i2 sums) r a a' b b' bits bits' errs errs' → 2 ≤ K.N → Known K P R e h1 h2 l1 l2 i1 i2 sums
    → Reads (first_different (suc e) (comparisons K P R e) (values K P R e)) r a a' b b' bits bits' errs errs'
reads_known {K} {P} {R} {e} {h1} {h2} {l1} {l2} {i1} {i2} {sums} {a} {a'} {b} {b'} {bits} {bits'} {errs} {errs'} {r} so two k =
    subst (λ (x : Reading). Reads x r a a' b b' bits bits' errs errs') (known_found K e h1 h2 l1 l2 i1 i2 sums P R two k) so
