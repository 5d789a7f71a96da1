-- ASCII digits and the numbers that they write.
use Rattle.std.specs.Prelude.{ℕ, ◌+◌, ◌-◌, if◌then◌else◌, List, [], ◌∷◌, map, Some, None, Option}
use Rattle.std.specs.Char.{is_ascii_digit}
use Rattle.std.specs.Int.Digits.{number_from_digits}

-- the index of the first byte that is no digit, where the first byte of the list has index i
unfoldable pub first_bad : List ℕ → ℕ → Option ℕ
first_bad [] i = None
first_bad (b ∷ bs) i = if is_ascii_digit b then first_bad bs (i + 1) else Some i

-- the value of a digit
abbrev pub value_of : ℕ → ℕ
value_of b = b - 0x30

-- the number that digits write in base ten, the first digit the most significant
abbrev pub decimal : List ℕ → ℕ
decimal bs = number_from_digits 10 (map value_of bs)
