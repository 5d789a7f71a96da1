-- Worked examples, reckoned by hand, of the definitions that the contracts cite. They are one list, proved as a whole.
use Rattle.std.specs.Prelude.{◌≡◌, ℕ, ◌^◌, ◌<◌, ◌≤◌, List, [], ◌∷◌, replicate, Ok, codes}
use Rattle.cave.specs.Lfsr.{cycled}
use Rattle.cmea.specs.Ciphering.{ciphered}
use Rattle.entry.specs.Entry.{digits_read}
use Rattle.oryx.specs.Steps.{step_k, step_a, step_b}

-- twenty key digits give a key
abbrev pub Gives : List ℕ → ℕ → Type 0
Gives digits key = digits_read digits 20 ≡ Ok key

-- the list
pub record WorkedExamples : Type 0 where
  -- the number of the key digits, and its remainder from 2^64 on
  pub key_counting : Gives (codes "12345678901234567890") 0xAB54A98CEB1F0AD2
  pub key_largest : Gives (codes "18446744073709551615") 0xFFFFFFFFFFFFFFFF
  pub key_wraps : Gives (codes "18446744073709551616") 0
  pub key_nines : Gives (codes "99999999999999999999") 0x6BC75E2D630FFFFF
  -- one LFSR cycle
  pub cycle_d0 : cycled 0x00000001 ≡ 0x80000000
  pub cycle_b6 : cycled 0x00400000 ≡ 0x80200000
  pub cycle_even : cycled 0x00000003 ≡ 0x00000001
  -- one step of ORYX register K
  pub k_from_zero : step_k 0 ≡ 0x18A0AC93
  pub k_from_one : step_k 1 ≡ 0xC672B008
  -- one step of register A at 0x80000000, by whether the top bit of K is set
  pub a_top_bit_set : (k : ℕ) → 2 ^ 31 ≤ k → k < 2 ^ 32 → step_a k 0x80000000 ≡ 0x04C11DB7
  pub a_top_bit_clear : (k : ℕ) → k < 2 ^ 31 → step_a k 0x80000000 ≡ 0x0FC22F87
  -- two steps of register B from 0x80000000
  pub b_first : step_b 0x80000000 ≡ 0x8031804B
  pub b_second : step_b 0x8031804B ≡ 0x805280DD
  -- two bytes ciphered under the CMEA key of zeros, there and back
  pub cmea_there : ciphered (replicate 8 0) (0x00 ∷ 0x00 ∷ []) ≡ 0xF1 ∷ 0xAF ∷ []
  pub cmea_back : ciphered (replicate 8 0) (0xF1 ∷ 0xAF ∷ []) ≡ 0x00 ∷ 0x00 ∷ []
