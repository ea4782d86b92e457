-- The lengths of the padded message and of the digest, and that a digest's entries are bytes. Assumes nothing.
use Rattle.std.specs.Prelude.{◌≡◌, ℕ, zero, suc, ◌*◌, ◌/◌, ◌%◌, ◌<◌, List, [], ◌∷◌, ◌++◌, length, slice_index, refl}
use Rattle.std.proofs.Common.{add-one, arith, length-append}
use Rattle.sha_core.specs.Fips180.{be, pad, absorb, bytes, sha256}

pub be-length : (n x : ℕ) → length (be n x) ≡ n
unfolding be
be-length zero x = refl
be-length (suc n) x = rw (length-append, be-length n (x / 256)) (add-one n)

pub bytes-length : (n : ℕ) (h : List ℕ) → length (bytes n h) ≡ 4 * n
unfolding bytes
bytes-length zero h = refl
bytes-length (suc n) h = rw (length-append, bytes-length n h, be-length 4 (slice_index h n)) (omega arith)

pub sha256-length : (m : List ℕ) → length (sha256 m) ≡ 32
unfolding sha256
sha256-length m = bytes-length 8 _

-- ---- bytes

-- Entries below 256; past the end an entry counts as 0.
join_below : (x y : List ℕ) → ((i : ℕ) → slice_index x i < 256) → ((i : ℕ) → slice_index y i < 256) → (i : ℕ) → slice_index (x ++ y) i < 256
join_below [] y h k i = k i
join_below (a ∷ x) y h k zero = h 0
join_below (a ∷ x) y h k (suc i) = join_below x y (λ j. h (suc j)) k i

be_below : (n x i : ℕ) → slice_index (be n x) i < 256
unfolding be
be_below zero x i = omega arith
be_below (suc n) x i = join_below (be n (x / 256)) (x % 256 ∷ []) (be_below n (x / 256)) last i
  where
    last : (i : ℕ) → slice_index (x % 256 ∷ []) i < 256
    last zero = omega arith
    last (suc i) = omega arith

bytes_below : (n : ℕ) (h : List ℕ) (i : ℕ) → slice_index (bytes n h) i < 256
unfolding bytes
bytes_below zero h i = omega arith
bytes_below (suc n) h i = join_below (bytes n h) (be 4 (slice_index h n)) (bytes_below n h) (be_below 4 (slice_index h n)) i

pub sha256_below : (m : List ℕ) (i : ℕ) → slice_index (sha256 m) i < 256
unfolding sha256
sha256_below m i = bytes_below 8 (absorb (length (pad m) / 64) (pad m)) i
