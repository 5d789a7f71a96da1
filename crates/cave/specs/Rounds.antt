-- A round, and a run of four or eight of them.
use Rattle.std.specs.Prelude.{ℕ, zero, suc, ◌+◌, ◌*◌, ◌/◌, ◌%◌, ◌^◌, List, replicate, slice_index, slice_set}
use Rattle.cave.specs.Bytes.{wide, bytes}
use Rattle.cave.specs.Table.{place}
use Rattle.cave.specs.Mix.{turns, mixed}
use Rattle.cave.specs.declared.state.CaveState.{CaveState}
use Rattle.cave.specs.declared.state.Rounds.{Rounds}
use Rattle.cave.specs.declared.state.Rounds.TheVariants.{Four, Eight}

-- the number of 128 bits n, rotated right by one
unfoldable pub turned : ℕ → ℕ
turned n = n / 2 + n % 2 * 2 ^ 127

-- the sixteen registers xs as 128 bits, rotated right by one
unfoldable pub rotated : List ℕ → List ℕ
rotated xs = bytes 16 (turned (wide 16 xs))

-- R[i] of xs put into ys at the place that entry i of row k names
abbrev pub put : ℕ → List ℕ → ℕ → List ℕ → List ℕ
put k xs i ys = slice_set ys (place k i) (slice_index xs i)

-- every register of xs put so, into sixteen zeros
unfoldable pub shuffled : ℕ → List ℕ → List ℕ
shuffled k xs = turns (put k xs) 16 (replicate 16 0)

-- the round of index k: mix, rotate, shuffle by row k
abbrev pub round : ℕ → CaveState → CaveState
round k m =
    let n = mixed m in
    record { registers = shuffled k (rotated n.registers); lfsr = n.lfsr; offset1 = n.offset1; offset2 = n.offset2 }

-- n rounds, from index n - 1 down to 0
unfoldable pub after_rounds : ℕ → CaveState → CaveState
after_rounds zero m = m
after_rounds (suc n) m = after_rounds n (round n m)

-- the number of rounds of a run
abbrev pub how_many : Rounds → ℕ
how_many Four = 4
how_many Eight = 8
