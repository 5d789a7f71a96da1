-- What ciphering a message answers, and what it leaves of the message.
use Rattle.std.specs.Prelude.{◌≡◌, ℕ, ◌+◌, ◌%◌, if◌then◌else◌, List, length, Ok, Err, Result, nat_lt, slice_index}
use Rattle.refusal.specs.declared.Refusal.{Refusal}
use Rattle.refusal.specs.declared.Refusal.TheVariants.{WrongLength}
use Rattle.cmea.specs.Substitution.{tbox}
use Rattle.cmea.specs.Passes.{first_pass, second_pass, third_pass}

-- the image of a message under a key: the three passes, the first and the third from byte 0 and the sum 0
unfoldable pub image : List ℕ → List ℕ → List ℕ
image key xs = third_pass (tbox key) 0 0 (second_pass (first_pass (tbox key) 0 0 xs))

-- the answer to a message: one under two bytes is refused with its length, and no layer lies above
abbrev pub answer_to : List ℕ → Result (Unit {0}) Refusal
answer_to xs = if nat_lt (length xs) 2 then Err (WrongLength (length xs) 0) else Ok tt

-- the message afterwards: its image, or where it is refused the message as it was
abbrev pub ciphered : List ℕ → List ℕ → List ℕ
ciphered key xs = if nat_lt (length xs) 2 then xs else image key xs

-- the lowest bit of the first byte is turned over
abbrev pub TurnsLowestBit : List ℕ → List ℕ → Type 0
TurnsLowestBit before after = slice_index after 0 % 2 ≡ (slice_index before 0 + 1) % 2
