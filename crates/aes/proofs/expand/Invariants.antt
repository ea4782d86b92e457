-- `aes::expand` meets its contract. Before turn k of turn r, w begins with the key and 4 r + k words; temp is the last of them, for k = 0 turned. Assumes nothing.
use Rattle.std.proofs.Common.{◌≡◌, ◌+◌, ◌*◌, ◌<◌, length, take}
use Rattle.aes.specs.Fips197.{words, word, xor_word, sub_word, rot_word, rcon}
use Rattle.aes.proofs.expand.Given as goal

abbrev pub invariant-loop-r : goal.invariant-loop-r
invariant-loop-r l = record { long : length l.w ≡ 176; so_far : take (16 + 4 * (4 * l.r)) l.w ≡ words (4 * l.r) l.fn.key; last : l.temp ≡ word l.w (4 * l.r + 3) }

abbrev pub invariant-loop-k : goal.invariant-loop-k
invariant-loop-k l =
    record {
      long : length l.w ≡ 176;
      so_far : take (16 + 4 * (4 * l.r + l.k)) l.w ≡ words (4 * l.r + l.k) l.fn.key;
      first : l.k ≡ 0 → l.temp ≡ xor_word (sub_word (rot_word (word l.w (4 * l.r + 3)))) (rcon (l.r + 1));
      later : 0 < l.k → l.temp ≡ word l.w (4 * l.r + l.k + 3);
    }
