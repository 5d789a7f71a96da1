-- The two sides of the table.
use Rattle.std.specs.Prelude.{ℕ}
use Rattle.cave.specs.Lfsr.{byte_a, byte_b}
use Rattle.cave.specs.declared.side.Side.{Side}
use Rattle.cave.specs.declared.side.Side.TheVariants.{Low, High}

-- which byte of the LFSR moves a side's offset: A moves offset 1, B offset 2
abbrev pub stage_of : Side → ℕ → ℕ
stage_of Low w = byte_a w
stage_of High w = byte_b w

-- which half of an entry a side takes
abbrev pub mask_of : Side → ℕ
mask_of Low = 15
mask_of High = 240
