-- Numbers and their bytes, the most significant first.
use Rattle.std.specs.Prelude.{ℕ, zero, suc, ◌+◌, ◌*◌, ◌/◌, ◌%◌, ◌^◌, List, [], ◌∷◌, slice_index}

-- the number that the first n bytes of xs write
unfoldable pub wide : ℕ → List ℕ → ℕ
wide zero xs = 0
wide (suc n) xs = wide n xs * 256 + slice_index xs n

-- the lowest n bytes of w
abbrev pub bytes : ℕ → ℕ → List ℕ
bytes zero w = []
bytes (suc n) w = w / 256 ^ n % 256 ∷ bytes n w

-- n bytes of xs from place i on
abbrev pub part : List ℕ → ℕ → ℕ → List ℕ
part xs i zero = []
part xs i (suc n) = slice_index xs i ∷ part xs (i + 1) n
