-- The words of a line, which blanks part.
use Rattle.std.specs.Prelude.{ℕ, Bool, if◌then◌else◌, not, ◌||◌, List, length, take_while, drop, Some, None, Option, ◌==◌, ◌&&◌, [], slice_index}

-- a space, a tab or a carriage return
abbrev pub is_blank : ℕ → Bool
is_blank b = b == 0x20 || (b == 0x09 || b == 0x0D)

-- a line without the blanks in front
abbrev pub unblanked : List ℕ → List ℕ
unblanked bs = drop (length (take_while is_blank bs)) bs

-- the bytes in front that are not blank
abbrev pub word_prefix : List ℕ → List ℕ
word_prefix bs = take_while (λ b. not (is_blank b)) bs

-- the first word of a line, which is empty only where the line has none
abbrev pub first_word : List ℕ → List ℕ
first_word bs = word_prefix (unblanked bs)

-- what stands behind it
abbrev pub behind_word : List ℕ → List ℕ
behind_word bs = drop (length (first_word bs)) (unblanked bs)

-- a word, or none where it is empty
abbrev pub unless_empty : List ℕ → Option (List ℕ)
unless_empty bs = if length bs == 0 then None else Some bs

-- a text, or an empty one where it is a dash
abbrev pub unless_dash : List ℕ → List ℕ
unless_dash bs = if length bs == 1 && slice_index bs 0 == 0x2D then [] else bs
