-- The tries on one side in the standard's words: the first of at most 32 that differs, or else the forced one.
use Rattle.std.specs.Prelude.{◌≡◌, ℕ, zero, suc, ◌<◌, ◌⊎◌, bit_and}
use Rattle.cave.specs.Lfsr.{cycled, d_raised}
use Rattle.cave.specs.Sides.{mask_of}
use Rattle.cave.specs.Mix.{half_at, moved}
use Rattle.cave.specs.declared.side.Side.{Side}
use Rattle.cave.specs.declared.side.Tried.{Tried}

-- the LFSR after j cycles
unfoldable pub cycles : ℕ → ℕ → ℕ
cycles zero w = w
cycles (suc j) w = cycles j (cycled w)

-- the offset after j tries on the register value r, with an LFSR cycle between two
unfoldable pub offset_after : Side → ℕ → ℕ → ℕ → ℕ → ℕ
offset_after s r zero w o = o
offset_after s r (suc j) w o = offset_after s r j (cycled w) (moved s r w o)

-- try j, counted from 0, takes the register's own half
abbrev pub Equal : Side → ℕ → ℕ → ℕ → ℕ → Type 0
Equal s r w o j = half_at s (offset_after s r (suc j) w o) ≡ bit_and r (mask_of s)

-- one of n tries differs, every one before it is equal, and it is taken
pub record FirstDiffering (s : Side) (n r w o : ℕ) (t : Tried) : Type 0 where
  pub at : ℕ
  pub within : at < n
  pub before : (j : ℕ) → j < at → Equal s r w o j
  pub differs : Equal s r w o at → ⊥
  pub gives : t ≡ record { lfsr = cycles at w; offset = offset_after s r (suc at) w o; half = half_at s (offset_after s r (suc at) w o) }

-- all n tries are equal: the last is taken, after one more cycle and with 1 added to D
pub record Forced (s : Side) (n r w o : ℕ) (t : Tried) : Type 0 where
  pub all : (j : ℕ) → j < n → Equal s r w o j
  pub gives : t ≡ record { lfsr = d_raised (cycles n w); offset = offset_after s r n w o; half = bit_and r (mask_of s) }

-- what at most 32 tries on the register value r leave
abbrev pub Search : Side → ℕ → ℕ → ℕ → Tried → Type 0
Search s r w o t = FirstDiffering s 32 r w o t ⊎ Forced s 32 r w o t
