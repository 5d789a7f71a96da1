-- What the uses of CAVE read off the last state.
use Rattle.std.specs.Prelude.{◌≡◌, ℕ, ◌+◌, ◌*◌, ◌/◌, ◌%◌, ◌^◌, bit_xor, slice_index}
use Rattle.cave.specs.Bytes.{wide, part}
use Rattle.cave.specs.declared.state.CaveState.{CaveState}
use Rattle.auth.specs.declared.types.RunEnd.{RunEnd}
use Rattle.auth.specs.declared.types.Ssd.{Ssd}
use Rattle.auth.specs.declared.types.Signed.{Signed}

-- register i XOR register j
abbrev pub crossed : CaveState → ℕ → ℕ → ℕ
crossed m i j = bit_xor (slice_index m.registers i) (slice_index m.registers j)

-- the 18 bits of a check or a signature
abbrev pub eighteen : CaveState → ℕ
eighteen m = (crossed m 0 13 * 2 ^ 16 + crossed m 1 14 * 2 ^ 8 + crossed m 2 15) % 2 ^ 18

-- in the standard's words: the two top bits are the lowest two of R0 XOR R13, the next eight are R1 XOR R14, the last eight R2 XOR R15
pub record Reads18 (m : CaveState) (r : ℕ) : Type 0 where
  pub top : r / 2 ^ 16 ≡ crossed m 0 13 % 4
  pub middle : r / 2 ^ 8 % 2 ^ 8 ≡ crossed m 1 14
  pub low : r % 2 ^ 8 ≡ crossed m 2 15

-- SSD_A is R0 to R7, SSD_B is R8 to R15
abbrev pub ssd_of : CaveState → Ssd
ssd_of m = record { a = wide 8 (part m.registers 0 8); b = wide 8 (part m.registers 8 8) }

-- what a run of CAVE leaves for the next one
abbrev pub run_end_of : CaveState → RunEnd
run_end_of m = record { lfsr = m.lfsr; offset1 = m.offset1; offset2 = m.offset2 }

-- a signature with what its run leaves
abbrev pub signed_of : CaveState → Signed
signed_of m = record { signature = eighteen m; left = run_end_of m }
