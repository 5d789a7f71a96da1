-- The three passes of CMEA over a message, under any substitution t. Sums are modulo 256.
use Rattle.std.specs.Prelude.{ℕ, ◌+◌, ◌-◌, ◌/◌, ◌%◌, if◌then◌else◌, List, [], ◌∷◌, map, length, bit_or, bit_xor, nat_lt, slice_index}
use Rattle.std.specs.List.{range_with_len}

-- the substitution drawn for byte i, where z is the running sum: the index enters modulo 256
abbrev pub drawn : (ℕ → ℕ) → ℕ → ℕ → ℕ
drawn t i z = t (bit_xor z (i % 256))

-- byte i with its substitution added
abbrev pub raised : (ℕ → ℕ) → ℕ → ℕ → ℕ → ℕ
raised t i z x = (x + drawn t i z) % 256

-- byte i with its substitution taken off
abbrev pub lowered : (ℕ → ℕ) → ℕ → ℕ → ℕ → ℕ
lowered t i z y = (y + (256 - drawn t i z)) % 256

-- the first pass from byte i on: the running sum z is of the raised bytes
unfoldable pub first_pass : (ℕ → ℕ) → ℕ → ℕ → List ℕ → List ℕ
first_pass t i z [] = []
first_pass t i z (x ∷ xs) = raised t i z x ∷ first_pass t (i + 1) ((z + raised t i z x) % 256) xs

-- byte i after the second pass: one of the first half takes up the byte as far from the end, with its lowest bit set
abbrev pub folded : List ℕ → ℕ → ℕ
folded xs i = if nat_lt i (length xs / 2) then bit_xor (slice_index xs i) (bit_or (slice_index xs (length xs - 1 - i)) 1) else slice_index xs i

-- the second pass
unfoldable pub second_pass : List ℕ → List ℕ
second_pass xs = map (folded xs) (range_with_len 0 (length xs))

-- the third pass from byte i on: the running sum z is of the bytes as they were, so that it undoes the first
unfoldable pub third_pass : (ℕ → ℕ) → ℕ → ℕ → List ℕ → List ℕ
third_pass t i z [] = []
third_pass t i z (y ∷ ys) = lowered t i z y ∷ third_pass t (i + 1) ((z + y) % 256) ys
