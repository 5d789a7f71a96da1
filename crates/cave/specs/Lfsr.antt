-- The linear feedback shift register of CAVE: 32 bits in the bytes A, B, C and D, A the most significant.
use Rattle.std.specs.Prelude.{ℕ, ◌+◌, ◌-◌, ◌*◌, ◌/◌, ◌%◌, ◌^◌}

-- bit k of w
abbrev pub bit : ℕ → ℕ → ℕ
bit k w = w / 2 ^ k % 2

-- bit 6 of B XOR bits 2, 1 and 0 of D: 1 where an odd number of the four is 1
abbrev pub feedback : ℕ → ℕ
feedback w = (bit 22 w + bit 2 w + bit 1 w + bit 0 w) % 2

-- one cycle: a shift right by one, with the feedback of the old bits as the new top bit
abbrev pub cycled : ℕ → ℕ
cycled w = feedback w * 2 ^ 31 + w / 2

-- 1 added to D modulo 256, with no carry into C
abbrev pub d_raised : ℕ → ℕ
d_raised w = w - w % 256 + (w % 256 + 1) % 256

-- the byte A, the top one
abbrev pub byte_a : ℕ → ℕ
byte_a w = w / 2 ^ 24 % 2 ^ 8

-- the byte B, the next one
abbrev pub byte_b : ℕ → ℕ
byte_b w = w / 2 ^ 16 % 2 ^ 8
