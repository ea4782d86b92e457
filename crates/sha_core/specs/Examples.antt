-- NIST's examples of SHA-256, one block and two, computed from the definition. Assumes nothing.
use Rattle.std.specs.Prelude.{◌≡◌, ℕ, List, [], ◌∷◌, refl}
use Rattle.sha_core.specs.Fips180.{K, be, pad, M, H0, W, schedule, T1, T2, round, rounds, added, compress, absorb, bytes, sha256}

-- "abc"
abbrev pub abc : List ℕ
abc = 97 ∷ 98 ∷ 99 ∷ []

-- NIST, SHA-256 examples, one block
abbrev pub abc_digest : List ℕ
abc_digest =
    0xba ∷ 0x78 ∷ 0x16 ∷ 0xbf ∷ 0x8f ∷ 0x01 ∷ 0xcf ∷ 0xea ∷
    0x41 ∷ 0x41 ∷ 0x40 ∷ 0xde ∷ 0x5d ∷ 0xae ∷ 0x22 ∷ 0x23 ∷
    0xb0 ∷ 0x03 ∷ 0x61 ∷ 0xa3 ∷ 0x96 ∷ 0x17 ∷ 0x7a ∷ 0x9c ∷
    0xb4 ∷ 0x10 ∷ 0xff ∷ 0x61 ∷ 0xf2 ∷ 0x00 ∷ 0x15 ∷ 0xad ∷ []

pub digest_abc : sha256 abc ≡ abc_digest
unfolding K be pad M H0 W schedule T1 T2 round rounds added compress absorb bytes sha256
digest_abc = refl

-- "abcdbcdecdefdefgefghfghighijhijkijkljklmklmnlmnomnopnopq"
abbrev pub letters : List ℕ
letters =
    97 ∷ 98 ∷ 99 ∷ 100 ∷ 98 ∷ 99 ∷ 100 ∷ 101 ∷ 99 ∷ 100 ∷ 101 ∷ 102 ∷ 100 ∷ 101 ∷ 102 ∷ 103 ∷
    101 ∷ 102 ∷ 103 ∷ 104 ∷ 102 ∷ 103 ∷ 104 ∷ 105 ∷ 103 ∷ 104 ∷ 105 ∷ 106 ∷ 104 ∷ 105 ∷ 106 ∷ 107 ∷
    105 ∷ 106 ∷ 107 ∷ 108 ∷ 106 ∷ 107 ∷ 108 ∷ 109 ∷ 107 ∷ 108 ∷ 109 ∷ 110 ∷ 108 ∷ 109 ∷ 110 ∷ 111 ∷
    109 ∷ 110 ∷ 111 ∷ 112 ∷ 110 ∷ 111 ∷ 112 ∷ 113 ∷ []

-- NIST, SHA-256 examples, two blocks
abbrev pub letters_digest : List ℕ
letters_digest =
    0x24 ∷ 0x8d ∷ 0x6a ∷ 0x61 ∷ 0xd2 ∷ 0x06 ∷ 0x38 ∷ 0xb8 ∷
    0xe5 ∷ 0xc0 ∷ 0x26 ∷ 0x93 ∷ 0x0c ∷ 0x3e ∷ 0x60 ∷ 0x39 ∷
    0xa3 ∷ 0x3c ∷ 0xe4 ∷ 0x59 ∷ 0x64 ∷ 0xff ∷ 0x21 ∷ 0x67 ∷
    0xf6 ∷ 0xec ∷ 0xed ∷ 0xd4 ∷ 0x19 ∷ 0xdb ∷ 0x06 ∷ 0xc1 ∷ []

pub digest_letters : sha256 letters ≡ letters_digest
unfolding K be pad M H0 W schedule T1 T2 round rounds added compress absorb bytes sha256
digest_letters = refl
