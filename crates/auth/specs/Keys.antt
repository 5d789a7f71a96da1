-- The CMEA key and the voice privacy mask of a call.
use Rattle.std.specs.Prelude.{◌≡◌, ℕ, zero, suc, ◌+◌, ◌/◌, ◌%◌, ◌<◌, List, [], ◌∷◌, map, slice_index, slice_index_or}
use Rattle.std.specs.List.{range_with_len}
use Rattle.cave.specs.Bytes.{wide}
use Rattle.cave.specs.Law.{Run}
use Rattle.cave.specs.Rounds.{after_rounds}
use Rattle.cave.specs.declared.state.CaveState.{CaveState}
use Rattle.auth.specs.Loading.{loading, if_zero, blended}
use Rattle.auth.specs.Reading.{crossed}
use Rattle.auth.specs.declared.types.OpeningRecord.{OpeningRecord}
use Rattle.auth.specs.declared.types.CallKeys.{CallKeys}

-- the first loading: as a signature's, over SSD_B, but from the LFSR that the opening signature left (RAND where that blends to zero),
-- and with the offsets that it left
abbrev pub opening_loading : OpeningRecord → CaveState
opening_loading o =
    let m = loading (if_zero (blended o.left.lfsr o.ssd_b) o.rand) o.ssd_b o.auth_data.0 o.esn in
    record { registers = m.registers; lfsr = m.lfsr; offset1 = o.left.offset1; offset2 = o.left.offset2 }

-- the roll-over: the LFSR becomes R0, R1, R14 and R15, or RAND where they are zero
abbrev pub rolled : ℕ → CaveState → CaveState
rolled rand m =
    let r : ℕ → ℕ = λ i. slice_index_or m.registers i 0 in
    record { registers = m.registers; lfsr = if_zero (wide 4 (r 0 ∷ r 1 ∷ r 14 ∷ r 15 ∷ [])) rand; offset1 = m.offset1; offset2 = m.offset2 }

-- the state after iteration n, counted from 0: the first has eight rounds, each further one four after a roll-over
unfoldable pub iteration : OpeningRecord → ℕ → CaveState
iteration o zero = after_rounds 8 (opening_loading o)
iteration o (suc n) = after_rounds 4 (rolled o.rand (iteration o n))

-- byte k of the key in the states `at`: iterations 1 and 2 give four each
abbrev pub key_byte : (ℕ → CaveState) → ℕ → ℕ
key_byte at k = crossed (at (k / 4 + 1)) (k % 4 + 4) (k % 4 + 8)

-- byte k of the mask: iterations 3 to 13 give six each, the last one five
abbrev pub mask_byte : (ℕ → CaveState) → ℕ → ℕ
mask_byte at k = crossed (at (k / 6 + 3)) (k % 6 + 2) (k % 6 + 8)

-- the CMEA key of a call
unfoldable pub cmea_key_of : OpeningRecord → List ℕ
cmea_key_of o = map (key_byte (iteration o)) (range_with_len 0 8)

-- the voice privacy mask of a call
unfoldable pub voice_mask_of : OpeningRecord → List ℕ
voice_mask_of o = map (mask_byte (iteration o)) (range_with_len 0 65)

-- both
abbrev pub call_keys_of : OpeningRecord → CallKeys
call_keys_of o = record { cmea_key = cmea_key_of o; voice_mask = voice_mask_of o }

-- the states `at` are those of a call's iterations: each is a whole run of CAVE from its loading
pub record Iterations (o : OpeningRecord) (at : ℕ → CaveState) : Type 0 where
  pub first : Run 8 (opening_loading o) (at 0)
  pub further : (n : ℕ) → Run 4 (rolled o.rand (at n)) (at (n + 1))

-- the bytes of a key are read off the states of the call's iterations
pub record KeysBy (o : OpeningRecord) (key : List ℕ) : Type 0 where
  pub at : ℕ → CaveState
  pub runs : Iterations o at
  pub bytes : (k : ℕ) → k < 8 → slice_index key k ≡ key_byte at k

-- the bytes of a mask are
pub record MasksBy (o : OpeningRecord) (mask : List ℕ) : Type 0 where
  pub at : ℕ → CaveState
  pub runs : Iterations o at
  pub bytes : (k : ℕ) → k < 65 → slice_index mask k ≡ mask_byte at k
