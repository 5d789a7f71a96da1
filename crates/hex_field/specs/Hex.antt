-- Upper-case hex digits, and the bytes that pairs of them write.
use Rattle.std.specs.Prelude.{ℕ, ◌+◌, ◌-◌, ◌*◌, Bool, if◌then◌else◌, ◌&&◌, ◌||◌, List, map, length, Some, None, Option, ◌==◌, nat_le, slice_index}
use Rattle.std.specs.List.{list_all, range_with_len}
use Rattle.std.specs.Char.{is_ascii_digit}

-- 'A' to 'F'
abbrev pub is_letter : ℕ → Bool
is_letter b = nat_le 0x41 b && nat_le b 0x46

-- an upper-case hex digit
abbrev pub is_hex : ℕ → Bool
is_hex b = is_ascii_digit b || is_letter b

-- the value of an upper-case hex digit, 0 for any other byte
abbrev pub hex_value : ℕ → ℕ
hex_value b = if is_ascii_digit b then b - 0x30 else (if is_letter b then b - 0x41 + 10 else 0)

-- every byte is a hex digit
abbrev pub all_hex : List ℕ → Bool
all_hex bs = list_all is_hex bs

-- a field of n bytes: two hex digits for each, and nothing else
unfoldable pub is_field : List ℕ → ℕ → Bool
is_field bs n = length bs == 2 * n && all_hex bs

-- byte k of a field: the digits at 2 * k and behind it, the high one first
unfoldable pub field_byte : List ℕ → ℕ → ℕ
field_byte bs k = hex_value (slice_index bs (2 * k)) * 16 + hex_value (slice_index bs (2 * k + 1))

-- the n bytes of a field
unfoldable pub field_bytes : List ℕ → ℕ → List ℕ
field_bytes bs n = map (field_byte bs) (range_with_len 0 n)

-- a text read as a field of n bytes
abbrev pub field_read : List ℕ → ℕ → Option (List ℕ)
field_read bs n = if is_field bs n then Some (field_bytes bs n) else None
