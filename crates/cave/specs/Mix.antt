-- The mixing of the sixteen registers, which begins each round.
use Rattle.std.specs.Prelude.{ℕ, zero, suc, ◌+◌, ◌%◌, ◌^◌, if◌then◌else◌, List, ◌==◌, bit_and, bit_or, bit_xor, slice_index, slice_index_or, slice_set}
use Rattle.cave.specs.Lfsr.{cycled, d_raised}
use Rattle.cave.specs.Table.{table}
use Rattle.cave.specs.Sides.{stage_of, mask_of}
use Rattle.cave.specs.declared.side.Side.{Side}
use Rattle.cave.specs.declared.side.Side.TheVariants.{Low, High}
use Rattle.cave.specs.declared.side.Tried.{Tried}
use Rattle.cave.specs.declared.state.CaveState.{CaveState}

-- the offset o moved by a try on the register value r at the LFSR w
abbrev pub moved : Side → ℕ → ℕ → ℕ → ℕ
moved s r w o = (o + bit_xor (stage_of s w) r) % 2 ^ 8

-- the half of the table's entry at offset o
abbrev pub half_at : Side → ℕ → ℕ
half_at s o = bit_and (slice_index table o) (mask_of s)

-- n tries are left, and the last one took the half h: a half that differs from r's own is found,
-- an equal one makes an LFSR cycle and a new try, and with no try left 1 is added to D
unfoldable pub tried : Side → ℕ → ℕ → ℕ → ℕ → ℕ → Tried
tried s zero r h w o = record { lfsr = d_raised w; offset = o; half = h }
tried s (suc n) r h w o =
    let at = moved s r w o in
    let half = half_at s at in
    if half == bit_and r (mask_of s) then tried s n r half (cycled w) at else record { lfsr = w; offset = at; half = half }

-- f at 0, then at 1, and so on, n times
unfoldable pub turns : {S : Type 0} → (ℕ → S → S) → ℕ → S → S
turns f zero s = s
turns f (suc n) s = f n (turns f n s)

-- the register to the right of register i, where `saved` is R0 as the round began
abbrev pub right_of : ℕ → ℕ → List ℕ → ℕ
right_of saved i xs = if i == 15 then saved else slice_index xs (i + 1)

-- register i mixed
unfoldable pub mixed_at : ℕ → ℕ → CaveState → CaveState
mixed_at saved i m =
    let r = slice_index_or m.registers i 0 in
    let low = tried Low 32 r 0 m.lfsr m.offset1 in
    let high = tried High 32 r 0 low.lfsr m.offset2 in
    record {
      registers = slice_set m.registers i (bit_xor (right_of saved i m.registers) (bit_or low.half high.half));
      lfsr = cycled high.lfsr;
      offset1 = low.offset;
      offset2 = high.offset;
    }

-- R0 to R15 mixed in turn
unfoldable pub mixed : CaveState → CaveState
mixed m = turns (mixed_at (slice_index m.registers 0)) 16 m
