-- Laws of the state and of the padding, over plain lists and numbers. Assumes nothing.
use Rattle.std.proofs.Common.{◌≡◌, ℕ, zero, suc, ◌+◌, ◌-◌, ◌*◌, ◌/◌, ◌%◌, ◌^◌, ◌<◌, ◌≤◌, List, [], ◌∷◌, ◌++◌, length, get_or, take, drop, replicate, sym, refl, ap, ◌∙◌, add-one, arith, append_assoc, append-nil, Bor, length-append, length-drop, take-append-drop, drop_of_length-le, length-take-le, take_all}
use native.Mathlib.Nat.{mod-add-mod}
use borrow.Rule.Slice.PartMut.{put_mid}
use lib.Seq.{take-append-le, drop-append-le, drop_at}
use Rattle.std.specs.Iterator.{Yields}
use Rattle.std.specs.Slice.Iter.{chunks_exact_rest, chunks_exact_size, chunks_exact_steps}
use Rattle.std.specs.List.{FoldsTo}
use Rattle.std.specs.Int.{w32, w64, to_be_bytes}
use Rattle.std.proofs.lemmas.Nat.{shr-shr}
use Rattle.std.proofs.lemmas.Slice.{take-put_mid}
use Rattle.sha_core.specs.Fips180.{be, compress, absorb, bytes, pad, sha256}
use Rattle.sha.specs.declared.Sha.{Sha}
use Rattle.sha.specs.State.{Stands, Fed}

-- the hash value after n blocks does not depend on what follows them
pub absorb-front : (n : ℕ) (m d : List ℕ) → n * 64 ≤ length m → absorb n (m ++ d) ≡ absorb n m
unfolding absorb
absorb-front zero m d h = refl
absorb-front (suc n) m d h =
    let e : take 64 (drop (n * 64) (m ++ d)) ≡ take 64 (drop (n * 64) m) =
    rw (drop-append-le (n * 64) m d (omega arith)) (take-append-le 64 (drop (n * 64) m) d (omega (arith, length-drop (n * 64) m))) in
    rw (absorb-front n m d (omega arith), e)

-- one block more
pub absorb-more : (n : ℕ) (p v r : List ℕ) → v ≡ absorb n p → r ≡ compress v (take 64 (drop (n * 64) p)) → r ≡ absorb (n + 1) p
unfolding absorb
absorb-more n p v r e f = rw add-one (cc)

-- d is put behind the first a of xs
pub put_behind : (a k : ℕ) (xs ys d : List ℕ) → a ≤ length xs → ys ≡ d → take (a + length d) (put_mid a k xs ys) ≡ take a xs ++ d
put_behind a k xs ys d h e = rw e (take-put_mid a k xs d (a + length d) refl h)

-- a list in which a part was written is as long as it was
pub put_long : (a k : ℕ) (xs ys : List ℕ) → a + k ≤ length xs → length ys ≡ k → length (put_mid a k xs ys) ≡ length xs
put_long a k xs ys h e = simp (length-append, length-drop) (omega (arith, length-take-le a xs (omega arith)))

-- the count of a fed state
pub counted-more : (c t : ℕ) (m d : List ℕ) → c ≡ length m % 2 ^ 64 → t ≡ (c + length d) % 2 ^ 64 → t ≡ length (m ++ d) % 2 ^ 64
counted-more c t m d e f = rw (f, e, mod-add-mod, length-append)

-- the fill of a block, from a count modulo 2 ^ 64
pub fill_is : (c n : ℕ) → c ≡ n % 2 ^ 64 → c % 64 ≡ n % 64
fill_is c n e = omega arith

short_div : (l n d : ℕ) → l ≡ n + d → n % 64 + d < 64 → l / 64 ≡ n / 64
short_div l n d e h = omega arith

short_mod : (l n d : ℕ) → l ≡ n + d → n % 64 + d < 64 → l % 64 ≡ n % 64 + d
short_mod l n d e h = omega arith

full_div : (l n d : ℕ) → l ≡ n + d → n % 64 + d ≡ 64 → l / 64 ≡ n / 64 + 1
full_div l n d e h = omega arith

full_mod : (l n d : ℕ) → l ≡ n + d → n % 64 + d ≡ 64 → l % 64 ≡ 0
full_mod l n d e h = omega arith

both-whole : (l n d : ℕ) → l ≡ n + d → n % 64 ≡ 0 → d % 64 ≡ 0 → l % 64 ≡ 0
both-whole l n d e h k = omega arith

whole_le : (n : ℕ) → n / 64 * 64 ≤ n
whole_le n = omega arith

whole_all : (n : ℕ) → n % 64 ≡ 0 → n ≤ n / 64 * 64
whole_all n h = omega arith

-- bytes that do not fill the block
pub keep_stands : (s : Sha) (m d b : List ℕ) (t : ℕ) → s.count % 64 + length d < 64
    → take (s.count % 64 + length d) b ≡ take (s.count % 64) s.block ++ d → t ≡ (s.count + length d) % 2 ^ 64
    → Stands s m → Stands (record { h = s.h; block = b; count = t }) (m ++ d)
keep_stands s m d b t h e f w =
    let k : s.count % 64 ≡ length m % 64 = fill_is _ _ w.counted in
    let q : length (m ++ d) / 64 ≡ length m / 64 = short_div _ _ _ (length-append m d) (rw k at h) in
    let z : length (m ++ d) % 64 ≡ length m % 64 + length d = short_mod _ _ _ (length-append m d) (rw k at h) in
    record {
      counted = counted-more _ t m d w.counted f;
      hashed = rw q (w.hashed ∙ sym (absorb-front (length m / 64) m d (whole_le _)));
      kept = rw (z, q) ((rw k at e) ∙ rw w.kept (sym (drop-append-le (length m / 64 * 64) m d (whole_le _))));
    }

-- bytes that just fill the block
pub complete_stands : (s : Sha) (m d b v : List ℕ) (t : ℕ) → s.count % 64 + length d ≡ 64 → length b ≡ 64
    → take (s.count % 64 + length d) b ≡ take (s.count % 64) s.block ++ d → v ≡ compress s.h b
    → t ≡ (s.count + length d) % 2 ^ 64 → Stands s m → Stands (record { h = v; block = b; count = t }) (m ++ d)
complete_stands s m d b v t h x e g f w =
    let k : s.count % 64 ≡ length m % 64 = fill_is _ _ w.counted in
    let q : length (m ++ d) / 64 ≡ length m / 64 + 1 = full_div _ _ _ (length-append m d) (rw k at h) in
    let z : length (m ++ d) % 64 ≡ 0 = full_mod _ _ _ (length-append m d) (rw k at h) in
    let a : take 64 b ≡ b = take_all 64 b (omega arith) in
    let o : take 64 b ≡ take (length m % 64) s.block ++ d = rw k at (rw h at e) in
    let u : drop (length m / 64 * 64) (m ++ d) ≡ b =
    rw (drop-append-le (length m / 64 * 64) m d (whole_le _), ← w.kept) (sym o ∙ a) in
    record {
      counted = counted-more _ t m d w.counted f;
      hashed = rw q (absorb-more (length m / 64) (m ++ d) s.h v (w.hashed ∙ sym (absorb-front (length m / 64) m d (whole_le _)))
          (rw (u, a) g));
      kept = rw (z, drop_of_length-le (m ++ d) {i = length (m ++ d) / 64 * 64} (whole_all _ z));
    }

-- a block x more, after whole blocks p
pub block_more : (p x v r : List ℕ) → length p % 64 ≡ 0 → length x ≡ 64 → v ≡ absorb (length p / 64) p → r ≡ compress v x
    → (length (p ++ x) % 64 ≡ 0) × (r ≡ absorb (length (p ++ x) / 64) (p ++ x))
block_more p x v r h l e f =
    let n : length p / 64 * 64 ≡ length p = omega arith in
    let b : take 64 (drop (length p / 64 * 64) (p ++ x)) ≡ x = rw n (rw (drop_at p x (length p) refl) (take_all 64 x (omega arith))) in
    let q : length (p ++ x) / 64 ≡ length p / 64 + 1 = omega (arith, length-append p x) in (
      omega (arith, length-append p x),
      rw q (absorb-more (length p / 64) (p ++ x) v r (e ∙ sym (absorb-front (length p / 64) p x (omega arith))) (rw b f)),
    )

-- the blocks xs that the iterator s gives before it is t, after whole blocks p
pub blocks_folded : (F : Type 0) (R : F × List ℕ → Bor (List ℕ) → F × List ℕ → Type 0)
    → (xs : List (Bor (List ℕ))) (s t : _) (p : List ℕ) (a b : F × List ℕ)
    → chunks_exact_size s ≡ 64 → length p % 64 ≡ 0 → length (chunks_exact_rest s) % 64 ≡ 0 → a.1 ≡ absorb (length p / 64) p
    → Yields chunks_exact_steps s xs t → FoldsTo R a xs b
    → ((a : F × List ℕ) (x : Bor (List ℕ)) (b : F × List ℕ) → R a x b → b.1 ≡ compress a.1 x.now)
    → (q : List ℕ) × (p ++ chunks_exact_rest s ≡ q ++ chunks_exact_rest t) × (chunks_exact_size t ≡ 64)
    × (length (chunks_exact_rest t) % 64 ≡ 0) × (b.1 ≡ absorb (length q / 64) q)
blocks_folded F R [] s t p a b size whole rest h y f turn =
    (p, ap (λ u. p ++ chunks_exact_rest u) y, ap (λ u. chunks_exact_size u) (sym y) ∙ size, ap (λ u. length (chunks_exact_rest u) % 64) (sym y) ∙ rest, ap (λ u. u.1) (sym f) ∙ h)
blocks_folded F R (x ∷ xs) s t p a b size whole rest h y f turn =
    let u = y.0 in
    let cut : chunks_exact_rest s ≡ x.now ++ chunks_exact_rest u = y.1.1.0 in
    let long : length x.now ≡ 64 = y.1.1.1 ∙ size in
    let next = block_more p x.now _ _ whole long h (turn a x f.0 f.1) in
    let more = blocks_folded F R xs u t (p ++ x.now) f.0 b (y.1.0 ∙ size) next.0
    (omega (arith, rest, long, ap (λ (l : List ℕ). length l) cut, length-append x.now (chunks_exact_rest u))) next.1 y.2 f.2 turn in
    (more.0, ap (λ (l : List ℕ). p ++ l) cut ∙ (sym (append_assoc p x.now _) ∙ more.1), more.2, more.3, more.4)

pub all_taken : (p q rest : List ℕ) → p ≡ q ++ rest → length rest < 64 → length rest % 64 ≡ 0 → q ≡ p
all_taken p q [] e h k = sym (e ∙ append-nil q)
all_taken p q (x ∷ xs) e h k = absurd (omega arith)

-- whole blocks after whole blocks
pub blocks_stand : (s : Sha) (m d v : List ℕ) (n t : ℕ) → n ≡ length d → s.count % 64 ≡ 0 → length d % 64 ≡ 0
    → ((m : List ℕ) → length m % 64 ≡ 0 → s.h ≡ absorb (length m / 64) m → v ≡ absorb (length (m ++ d) / 64) (m ++ d))
    → t ≡ (s.count + n) % 2 ^ 64 → Stands s m → Stands (record { h = v; block = s.block; count = t }) (m ++ d)
blocks_stand s m d v n t o h k e f w =
    let q : length m % 64 ≡ 0 = sym (fill_is _ _ w.counted) ∙ h in
    let z : length (m ++ d) % 64 ≡ 0 = both-whole _ _ _ (length-append m d) q k in
    record {
      counted = counted-more _ t m d w.counted (rw o at f);
      hashed = e m q w.hashed;
      kept = rw (z, drop_of_length-le (m ++ d) {i = length (m ++ d) / 64 * 64} (whole_all _ z));
    }

-- std's bytes of a number are the standard's
pub be_four : (x : ℕ) → to_be_bytes w32 x ≡ be 4 x
unfolding be
be_four x =
    let a : x / 2 ^ 8 / 2 ^ 8 ≡ x / 2 ^ 16 = shr-shr x 8 8 in
    let b : x / 2 ^ 16 / 2 ^ 8 ≡ x / 2 ^ 24 = shr-shr x 16 8 in
    rw (a, b) refl

pub be_eight : (x : ℕ) → to_be_bytes w64 x ≡ be 8 x
unfolding be
be_eight x =
    let a : x / 2 ^ 8 / 2 ^ 8 ≡ x / 2 ^ 16 = shr-shr x 8 8 in
    let b : x / 2 ^ 16 / 2 ^ 8 ≡ x / 2 ^ 24 = shr-shr x 16 8 in
    let c : x / 2 ^ 24 / 2 ^ 8 ≡ x / 2 ^ 32 = shr-shr x 24 8 in
    let d : x / 2 ^ 32 / 2 ^ 8 ≡ x / 2 ^ 40 = shr-shr x 32 8 in
    let e : x / 2 ^ 40 / 2 ^ 8 ≡ x / 2 ^ 48 = shr-shr x 40 8 in
    let f : x / 2 ^ 48 / 2 ^ 8 ≡ x / 2 ^ 56 = shr-shr x 48 8 in
    rw (a, b, c, d, e, f) refl

-- a word more of the digest
pub bytes-more : (h r y : List ℕ) (t k : ℕ) → 4 * t + 4 ≤ length r → take (4 * t) r ≡ bytes t h → y ≡ to_be_bytes w32 (get_or h t 0)
    → take (4 * (t + 1)) (put_mid (4 * t) k r y) ≡ bytes (t + 1) h
unfolding bytes
bytes-more h r y t k l e f =
    let w : length y ≡ 4 = rw f refl in
    rw (take-put_mid (4 * t) k r y (4 * (t + 1)) (omega arith) (omega arith), add-one, e, f, be_four) refl

-- a list in two parts
pub fed_parts : (s r : Sha) (d : List ℕ) (n : ℕ) → n ≤ length d → Fed s (take n d ++ take (length d - n) (drop n d)) r → Fed s d r
fed_parts s r d n h f = rw (take_all (length d - n) (drop n d) (omega (arith, length-drop n d)), take-append-drop n d) at f

-- the whole blocks at the front of d
pub front-whole : (d : List ℕ) → length (take (length d / 64 * 64) d) % 64 ≡ 0
front-whole d = rw (length-take-le (length d / 64 * 64) d (whole_le _)) (omega arith)

take-replicate : (n m a : ℕ) → n ≤ m → take n (replicate m a) ≡ replicate n a
take-replicate zero m a h = refl
take-replicate (suc n) zero a h = absurd (omega arith)
take-replicate (suc n) (suc m) a h = ap (λ (l : List ℕ). a ∷ l) (take-replicate n m a (omega arith))

be_step : (n a b : ℕ) → ((y : ℕ) → y % a / 256 ≡ y / 256 % b) → ((y : ℕ) → y % a % 256 ≡ y % 256)
    → ((y : ℕ) → be n (y % b) ≡ be n y) → (x : ℕ) → be (suc n) (x % a) ≡ be (suc n) x
unfolding be
be_step n a b p q r x = rw (p x, q x, r (x / 256))

-- eight bytes see a number modulo 2 ^ 64
be-mod : (x : ℕ) → be 8 (x % 2 ^ 64) ≡ be 8 x
unfolding be
be-mod =
    be_step 7 (2 ^ 64) (2 ^ 56) (λ y. omega arith) (λ y. omega arith)
    (be_step 6 (2 ^ 56) (2 ^ 48) (λ y. omega arith) (λ y. omega arith)
    (be_step 5 (2 ^ 48) (2 ^ 40) (λ y. omega arith) (λ y. omega arith)
    (be_step 4 (2 ^ 40) (2 ^ 32) (λ y. omega arith) (λ y. omega arith)
    (be_step 3 (2 ^ 32) (2 ^ 24) (λ y. omega arith) (λ y. omega arith)
    (be_step 2 (2 ^ 24) (2 ^ 16) (λ y. omega arith) (λ y. omega arith)
    (be_step 1 (2 ^ 16) (2 ^ 8) (λ y. omega arith) (λ y. omega arith)
    (be_step 0 (2 ^ 8) (2 ^ 0) (λ y. omega arith) (λ y. omega arith)
    (λ y. refl))))))))

-- what `finish` feeds
pub padded : (c : ℕ) (m l : List ℕ) → c ≡ length m % 2 ^ 64 → l ≡ be 8 ((c * 2 ^ 3) % 2 ^ 64)
    → m ++ take ((119 - c % 64) % 64 + 1) (0x80 ∷ replicate 63 0) ++ l ≡ pad m
unfolding pad
padded c m l e f =
    let k : c % 64 ≡ length m % 64 = fill_is c (length m) e in
    let b : (c * 8) % 2 ^ 64 ≡ (length m * 8) % 2 ^ 64 = omega arith in
    rw (f, b, be-mod, k, add-one, take-replicate ((119 - length m % 64) % 64) 63 0 (omega arith))

pub finish_is : (b : Sha) (x m r : List ℕ) → x ≡ pad m → r ≡ bytes 8 b.h → Stands b x → r ≡ sha256 m
unfolding sha256
finish_is b x m r e f w = f ∙ ap (λ (h : List ℕ). bytes 8 h) (w.hashed ∙ ap (λ (p : List ℕ). absorb (length p / 64) p) e)
