-- What is read of a key entry: the digits of an A-key, and behind them six check digits.
use Rattle.std.specs.Prelude.{◌≡◌, ℕ, ◌-◌, ◌%◌, ◌^◌, ◌<◌, ◌≤◌, true, false, if◌then◌else◌, ◌||◌, ◌⊎◌, List, length, take, drop, Some, None, Ok, Err, Option, Result, ◌==◌, ◌≢◌, nat_lt, slice_index}
use Rattle.std.specs.Char.{is_ascii_digit}
use Rattle.auth.specs.Uses.{akey_check_of}
use Rattle.refusal.specs.declared.Refusal.{Refusal}
use Rattle.refusal.specs.declared.Refusal.TheVariants.{NotADigit, WrongCount, CheckDiffers, WrongLength}
use Rattle.entry.specs.Digits.{first_bad, decimal}

-- the refusal of the first byte that is no digit, or else r
abbrev pub unless_bad : Option ℕ → Result ℕ Refusal → Result ℕ Refusal
unless_bad (Some i) r = Err (NotADigit i)
unless_bad None r = r

-- the number of the first n bytes modulo 2^64, if all bytes are digits
abbrev pub digits_read : List ℕ → ℕ → Result ℕ Refusal
digits_read bs n = unless_bad (first_bad bs 0) (Ok (decimal (take n bs) % 2 ^ 64))

-- the key that was typed: all digits but the last six
abbrev pub key_of : List ℕ → ℕ
key_of bs = decimal (take (length bs - 6) bs) % 2 ^ 64

-- the check that was typed: the last six digits
abbrev pub check_of : List ℕ → ℕ
check_of bs = decimal (drop (length bs - 6) bs)

-- the check that CAVE gives of the key that was typed
abbrev pub right_check : ℕ → List ℕ → ℕ
right_check esn bs = akey_check_of (record { esn = esn; key = key_of bs })

-- the answer to an entry: first the count, then the digits, then the check
abbrev pub entry_read : ℕ → List ℕ → Result ℕ Refusal
entry_read esn bs =
    if nat_lt (length bs) 6 || nat_lt 26 (length bs) then Err (WrongCount (length bs)) else
    unless_bad (first_bad bs 0) (if check_of bs == right_check esn bs then Ok (key_of bs) else Err CheckDiffers)

-- every byte below place n is a digit
abbrev pub DigitsBelow : List ℕ → ℕ → Type 0
DigitsBelow bs n = (k : ℕ) → k < n → is_ascii_digit (slice_index bs k) ≡ true

-- what each answer says of the entry; no other refusal is an answer to one
abbrev pub Says : ℕ → List ℕ → Result ℕ Refusal → Type 0
Says esn bs (Ok key) = (6 ≤ length bs) × (length bs ≤ 26) × DigitsBelow bs (length bs) × (key ≡ key_of bs) × (check_of bs ≡ right_check esn bs)
Says esn bs (Err (WrongCount n)) = (n ≡ length bs) × ((n < 6) ⊎ (26 < n))
Says esn bs (Err (NotADigit i)) = (6 ≤ length bs) × (length bs ≤ 26) × (i < length bs) × (is_ascii_digit (slice_index bs i) ≡ false) × DigitsBelow bs i
Says esn bs (Err CheckDiffers) = (6 ≤ length bs) × (length bs ≤ 26) × DigitsBelow bs (length bs) × (check_of bs ≢ right_check esn bs)
Says esn bs (Err (WrongLength n layers)) = ⊥
