-- Numbers in four bytes each, in the shape in which the loop meets them. Assumes nothing.
use Rattle.std.proofs.Common.{◌≡◌, ℕ, ◌+◌, ◌*◌, ◌<◌, ◌≤◌, List, ◌++◌, length, get_or, take, add-one, arith, take-suc}
use Rattle.std.proofs.lemmas.Slice.{take-put_mid}
use borrow.Rule.Slice.PartMut.{put_mid}
use Rattle.std.specs.Int.{from_le_bytes, w32}
use Rattle.lists.specs.Index.{part}
use Rattle.lists.specs.Bytes.{le4, words, num, rd4}
use Rattle.lists.specs.CatLaws.{le4-length, words_append}

words_more : (xs : List ℕ) (i : ℕ) → i < length xs → words (take (i + 1) xs) ≡ words (take i xs) ++ le4 (get_or xs i 0)
unfolding words le4
words_more xs i h = rw (add-one, take-suc xs i 0 h, words_append)

-- number i behind those before it
pub put_more : (out xs y : List ℕ) (i k : ℕ) → 4 * i + 4 ≤ length out → i < length xs → take (4 * i) out ≡ words (take i xs)
    → y ≡ le4 (get_or xs i 0) → take (4 * (i + 1)) (put_mid (4 * i) k out y) ≡ words (take (i + 1) xs)
put_more out xs y i k h l e f =
    let n : length y ≡ 4 = rw f (le4-length (get_or xs i 0)) in
    rw (take-put_mid (4 * i) k out y (4 * (i + 1)) (omega arith) (omega arith), words_more xs i l, e, f)

-- a number of four bytes as the library reads it
pub read_four : (x : List ℕ) (j : ℕ) → from_le_bytes w32 (part x (4 * j) 4) ≡ num x j
unfolding num rd4
read_four x j = omega arith
