-- The substitution of a CMEA key: the standard's tbox, four look-ups in the table of CAVE.
use Rattle.std.specs.Prelude.{ℕ, ◌+◌, ◌%◌, List, bit_xor, slice_index}
use Rattle.cave.specs.Table.{table}

-- one look-up, under two bytes of the key: r is XORed with the first, the second is added, and z is added to the entry there
abbrev pub stage : ℕ → ℕ → ℕ → ℕ → ℕ
stage first second z r = (z + slice_index table ((bit_xor r first + second) % 256)) % 256

-- the substitution of z: from z on, a look-up under each pair of key bytes in turn
unfoldable pub tbox : List ℕ → ℕ → ℕ
tbox key z =
    stage (slice_index key 6) (slice_index key 7) z
    (stage (slice_index key 4) (slice_index key 5) z
    (stage (slice_index key 2) (slice_index key 3) z
    (stage (slice_index key 0) (slice_index key 1) z z)))
