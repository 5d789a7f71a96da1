-- Digits read one at a time, and what the first bad one says of the others.
use Rattle.std.proofs.Common.{◌≡◌, ℕ, zero, suc, ◌+◌, ◌-◌, ◌*◌, ◌<◌, ◌≤◌, true, false, List, [], ◌∷◌, map, length, get_or, take, drop, Some, None, Option, arith}
use Rattle.std.proofs.lemmas.Grind.{common_steps}
use Rattle.std.proofs.lemmas.List.{map_more, take_all, drop_more, drop_all, at_drop_more, at_drop_all}
use borrow.Author.Count.{below_more}
use Rattle.std.proofs.lemmas.Bool.{cond_both}
use Rattle.std.proofs.lemmas.Int.Digits.{number_push}
use Rattle.std.specs.Prelude.{if◌then◌else◌}
use Rattle.std.specs.Char.{is_ascii_digit}
use Rattle.entry.specs.Digits.{first_bad, value_of, decimal}
use Rattle.entry.specs.Entry.{DigitsBelow}

-- one digit more
pub decimal_more : (bs : List ℕ) (i : ℕ) → i < length bs → decimal (take (i + 1) bs) ≡ decimal (take i bs) * 10 + value_of (get_or bs i 0)
decimal_more bs i h = rw (map_more value_of bs i 0 h) (number_push 10 (map value_of (take i bs)) _)

-- a digit leads on to the bytes behind it, a byte that is none is the first bad one, and behind the last there is none
pub bad_at : (bs : List ℕ) (i : ℕ) → i < length bs → first_bad (drop i bs) i ≡ (if is_ascii_digit (get_or bs i 0) then first_bad (drop (i + 1) bs) (i + 1) else Some i)
unfolding first_bad
bad_at bs i h = at_drop_more (λ (xs : List ℕ). first_bad xs i) bs i 0 h

pub bad_none : (bs : List ℕ) (i : ℕ) → length bs ≤ i → first_bad (drop i bs) i ≡ None
unfolding first_bad
bad_none bs i h = at_drop_all (λ (xs : List ℕ). first_bad xs i) bs i h

pub ruleset scanning = (common_steps, decimal_more, bad_at, bad_none, take_all)

-- what the search for a bad byte tells of the list
abbrev pub Told : List ℕ → Option ℕ → Type 0
Told bs (Some i) = (i < length bs) × (is_ascii_digit (get_or bs i 0) ≡ false) × DigitsBelow bs i
Told bs None = DigitsBelow bs (length bs)

told_from : (bs : List ℕ) (n i : ℕ) → n + i ≡ length bs → DigitsBelow bs i → Told bs (first_bad (drop i bs) i)
told_from bs zero i e d = rw (bad_none bs i (omega arith)) (λ k h. d k (omega arith))
told_from bs (suc n) i e d =
    rw (bad_at bs i (omega arith))
    (cond_both (is_ascii_digit (get_or bs i 0)) _ _ (Told bs)
    (λ t. told_from bs n (i + 1) (omega arith) (below_more (λ k. is_ascii_digit (get_or bs k 0) ≡ true) i d t))
    (λ f. (omega arith, f, d)))

pub told : (bs : List ℕ) → Told bs (first_bad bs 0)
told bs = told_from bs (length bs) 0 (omega arith) (λ k h. absurd (omega arith))

-- the last bytes, as a slice pattern gives them
abbrev pub last : List ℕ → ℕ → List ℕ
last bs zero = []
last bs (suc k) = get_or bs (length bs - suc k) 0 ∷ last bs k

pub drop_last : (bs : List ℕ) (k : ℕ) → k ≤ length bs → drop (length bs - k) bs ≡ last bs k
drop_last bs zero h = drop_all (length bs - 0) bs (omega arith)
drop_last bs (suc k) h = grind (arith, drop_more bs (length bs - suc k) 0, drop_last bs k)
