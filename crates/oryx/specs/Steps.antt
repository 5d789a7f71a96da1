-- The registers of ORYX, words of 32 bits, and their steps.
use Rattle.std.specs.Prelude.{ℕ, zero, suc, ◌+◌, ◌*◌, ◌/◌, ◌%◌, ◌^◌, if◌then◌else◌, List, ◌==◌, bit_xor, slice_index}
use Rattle.oryx.specs.declared.registers.Registers.{Registers}

-- f applied n times
unfoldable pub times : {X : Type 0} → ℕ → (X → X) → X → X
times zero f x = x
times (suc n) f x = f (times n f x)

-- the byte that stands n bits up in a word
abbrev pub byte : ℕ → ℕ → ℕ
byte n w = w / 2 ^ n % 256

-- the leftmost byte of a word
abbrev pub high : ℕ → ℕ
high w = byte 24 w

-- a step to the right: the bit that leaves at the right end is fed back where f has its bits
abbrev pub right_step : ℕ → ℕ → ℕ
right_step f w = bit_xor (w / 2) (w % 2 * f)

-- a step to the left: the bit that leaves at the left end is fed back where f has its bits
abbrev pub left_step : ℕ → ℕ → ℕ
left_step f w = bit_xor (w * 2 % 2 ^ 32) (w / 2 ^ 31 * f)

-- zero is replaced before K steps
abbrev pub non_zero : ℕ → ℕ
non_zero k = if k == 0 then 0x31415926 else k

-- one step of K
abbrev pub step_k : ℕ → ℕ
step_k k = right_step 0xC672B008 (non_zero k)

-- one step of A: the top bit of K chooses its feedback
abbrev pub step_a : ℕ → ℕ → ℕ
step_a k a = if k / 2 ^ 31 == 1 then left_step 0x04C11DB7 a else left_step 0x0FC22F87 a

-- one step of B
abbrev pub step_b : ℕ → ℕ
step_b b = left_step 0x8031804B b

-- B steps twice where the bit of K below its top bit is set, and else once
abbrev pub steps_b : ℕ → ℕ → ℕ
steps_b k b = if k / 2 ^ 30 % 2 == 1 then step_b (step_b b) else step_b b

-- one step of all three: K first, and then A and B by the new K
unfoldable pub stepped : Registers → Registers
stepped s = record { k = step_k s.k; a = step_a (step_k s.k) s.a; b = steps_b (step_k s.k) s.b }

-- the key byte of registers that have stepped: the leftmost byte of K, and the table at those of A and B, added modulo 256
abbrev pub key_byte : List ℕ → Registers → ℕ
key_byte table s = (high s.k + slice_index table (high s.a) + slice_index table (high s.b)) % 256
