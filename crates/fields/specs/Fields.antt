-- What a hex field of a type's width is read as.
use Rattle.std.specs.Prelude.{ℕ, ◌-◌, if◌then◌else◌, ◌||◌, List, ◌++◌, length, replicate, Some, None, Ok, Err, Option, Result, ◌==◌, nat_lt}
use Rattle.cave.specs.Bytes.{wide}
use Rattle.auth.specs.declared.types.AuthData.{AuthData}
use Rattle.auth.specs.declared.types.RandSsd.{RandSsd}
use Rattle.hex_field.specs.Hex.{is_field, field_bytes}
use Rattle.fields.specs.declared.expected.Form.{Form}
use Rattle.fields.specs.declared.expected.Expected.{Expected}

-- a number of n bytes
abbrev pub number_read : List ℕ → ℕ → Option ℕ
number_read bs n = if is_field bs n then Some (wide n (field_bytes bs n)) else None

-- digits with zeros in front, to make 8
abbrev pub padded : List ℕ → List ℕ
padded bs = replicate (8 - length bs) 0x30 ++ bs

-- a number of 1 to 8 digits: with zeros in front it is one of 4 bytes
abbrev pub short_number_read : List ℕ → Option ℕ
short_number_read bs = if length bs == 0 || nat_lt 8 (length bs) then None else number_read (padded bs) 4

-- AUTH_DATA, three bytes
abbrev pub auth_data_read : List ℕ → Option AuthData
auth_data_read bs = if is_field bs 3 then Some (record { 0 = field_bytes bs 3 }) else None

-- RANDSSD, seven bytes
abbrev pub rand_ssd_read : List ℕ → Option RandSsd
rand_ssd_read bs = if is_field bs 7 then Some (record { 0 = field_bytes bs 7 }) else None

-- the value that was read, or else the form that was expected
abbrev pub or_expected : {X : Type 0} → Form → Option X → Result X Expected
or_expected form (Some value) = Ok value
or_expected form None = Err (record { 0 = form })
