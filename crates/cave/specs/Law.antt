-- A run of CAVE in the standard's words, as a relation between the state before and the state after.
use Rattle.std.specs.Prelude.{◌≡◌, ℕ, zero, suc, ◌+◌, ◌%◌, ◌<◌, length, ◌≢◌, bit_or, bit_xor, slice_index, slice_index_or}
use Rattle.cave.specs.Lfsr.{cycled}
use Rattle.cave.specs.Table.{place}
use Rattle.cave.specs.Rounds.{rotated}
use Rattle.cave.specs.Tries.{Search}
use Rattle.cave.specs.declared.side.Side.TheVariants.{Low, High}
use Rattle.cave.specs.declared.side.Tried.{Tried}
use Rattle.cave.specs.declared.state.CaveState.{CaveState}

-- register i treated, in a round that began at `start`: it becomes the register that stood to its right then (for R15, R0)
-- XOR both halves joined, one LFSR cycle follows, and no other register changes
pub record Treats (start : CaveState) (i : ℕ) (m n : CaveState) : Type 0 where
  pub low : Tried
  pub high : Tried
  pub low_search : Search Low (slice_index m.registers i) m.lfsr m.offset1 low
  pub high_search : Search High (slice_index m.registers i) low.lfsr m.offset2 high
  pub written : slice_index_or n.registers i 0 ≡ bit_xor (slice_index start.registers ((i + 1) % 16)) (bit_or low.half high.half)
  pub others : (j : ℕ) → (j ≢ i) → slice_index n.registers j ≡ slice_index m.registers j
  pub lfsr : n.lfsr ≡ cycled high.lfsr
  pub offset1 : n.offset1 ≡ low.offset
  pub offset2 : n.offset2 ≡ high.offset

-- R0 to R15 treated in turn: `before i` is the state as R[i] is met
pub record Mixing (m n : CaveState) : Type 0 where
  pub before : ℕ → CaveState
  pub begins : before 0 ≡ m
  pub ends : before 16 ≡ n
  pub each : (i : ℕ) → i < 16 → Treats m i (before i) (before (i + 1))

-- the round of index k: it mixes, rotates, and moves every register to the place that row k names;
-- every place is named by one register, so that none is lost
pub record Round (k : ℕ) (m n : CaveState) : Type 0 where
  pub between : CaveState
  pub mixes : Mixing m between
  pub moves : (i : ℕ) → i < 16 → slice_index n.registers (place k i) ≡ slice_index (rotated between.registers) i
  pub loses_none : (j : ℕ) → j < 16 → (i : ℕ) × (i < 16) × (place k i ≡ j)
  pub sixteen : length n.registers ≡ 16
  pub lfsr : n.lfsr ≡ between.lfsr
  pub offset1 : n.offset1 ≡ between.offset1
  pub offset2 : n.offset2 ≡ between.offset2

-- a run of n rounds is one round of each index from n - 1 down to 0, none left out
abbrev pub Run : ℕ → CaveState → CaveState → Type 0
Run zero m r = r ≡ m
Run (suc n) m r = (next : CaveState) × Round n m next × Run n next r

-- r is read off the state that eight rounds lead to from `start`
pub record AnswersBy {Out : Type 0} (start : CaveState) (reading : CaveState → Out) (r : Out) : Type 0 where
  pub last : CaveState
  pub run : Run 8 start last
  pub read : r ≡ reading last
