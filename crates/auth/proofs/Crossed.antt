-- What two registers cross to after a run is a byte.
use Rattle.std.proofs.Common.{ℕ, ◌^◌, ◌<◌, arith}
use lib.Bits.{xor_lt}
use Rattle.cave.specs.Rounds.{after_rounds}
use Rattle.cave.specs.declared.state.CaveState.{CaveState}
use Rattle.cave.proofs.Lawful.{registers_below}
use Rattle.auth.specs.Reading.{crossed}

pub crossed_below : (start : CaveState) (i j : ℕ) → crossed (after_rounds 8 start) i j < 2 ^ 8
crossed_below start i j = xor_lt 8 _ _ (registers_below 8 start (omega arith) i) (registers_below 8 start (omega arith) j)
