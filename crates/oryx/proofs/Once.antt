-- The table of a call is the numbers 0 to 255, shuffled, so it holds each once.
use Rattle.std.proofs.Common.{◌≡◌, ℕ, zero, suc, ◌+◌, ◌<◌, ◌≤◌, cond, eqb, List, length, get_or, take, count_by, refl, ◌∙◌, arith}
use Rattle.std.specs.List.{range_with_len}
use Rattle.std.specs.List.Sorted.{IsPermutation}
use Rattle.std.proofs.lemmas.Grind.{common_steps}
use Rattle.std.proofs.lemmas.List.FromFn.{length-range_with_len, get_or-range_with_len}
use Rattle.std.proofs.lemmas.List.Elements.{All-get_or, All-from_get_or}
use Rattle.std.proofs.lemmas.List.{length-take-le}
use Rattle.std.proofs.lemmas.List.Sorted.{IsPermutation-refl, IsPermutation-swap, IsPermutation-trans, All-permutation, length_permutation, sum_by-IsPermutation}
use Rattle.std.proofs.lemmas.List.Sums.{sum_by-take-le, get_or-le-sum_by, count_by_more_yes}
use Rattle.std.proofs.lemmas.Bool.{eq-eqb}
use Rattle.oryx.specs.Steps.{times, high, step_k}
use Rattle.oryx.specs.Tables.{exchanges, call_table}
use Rattle.oryx.specs.Laws.{EachOnce}

exchanges_shuffled : (n k : ℕ) → n ≤ 256 → IsPermutation (range_with_len 0 256) (exchanges n k)
unfolding exchanges
exchanges_shuffled zero k h = IsPermutation-refl (range_with_len 0 256)
exchanges_shuffled (suc n) k h =
    let before = exchanges_shuffled n k (omega arith) in
    let long = length_permutation _ _ before ∙ length-range_with_len 0 256 in
    IsPermutation-trans _ _ _ before (IsPermutation-swap _ _ n (high (times (suc n) step_k k)) (omega arith) (omega arith) refl)

table_shuffled : (rand : ℕ) → IsPermutation (range_with_len 0 256) (call_table rand)
table_shuffled rand = exchanges_shuffled 256 rand (omega arith)

-- how often v is among n numbers from a on
count_below : (n a v : ℕ) → v < a → count_by (eqb v) (range_with_len a n) ≡ 0
count_below zero a v h = refl
count_below (suc n) a v h = grind (arith, common_steps, count_below n (a + 1) v)

count_within : (n a v : ℕ) → a ≤ v → v < a + n → count_by (eqb v) (range_with_len a n) ≡ 1
count_within zero a v from to = absurd (omega arith)
count_within (suc n) a v from to = grind (arith, common_steps, count_below n (a + 1) v, count_within n (a + 1) v)

pub table_each_once : (rand : ℕ) → EachOnce (call_table rand)
table_each_once rand =
    record {
      long = length_permutation _ _ (table_shuffled rand) ∙ length-range_with_len 0 256;
      once = λ v h. sum_by-IsPermutation (λ (x : ℕ). cond (eqb v x) 1 0) _ _ (table_shuffled rand) ∙ count_within 256 0 v (omega arith) (omega arith);
    }

-- every entry is a byte
pub table_bytes : (rand i : ℕ) → i < 256 → get_or (call_table rand) i 0 < 256
table_bytes rand i h =
    let is_byte : ℕ → Type 0 = λ x. x < 256 in
    let all = All-from_get_or is_byte (range_with_len 0 256) 0 (λ j l. omega (arith, get_or-range_with_len 0 256 j 0 l)) in
    All-get_or is_byte (call_table rand) i 0 (omega (arith, (table_each_once rand).long)) (All-permutation is_byte _ _ (table_shuffled rand) all)

-- what stands at two places is counted twice
twice : (xs : List ℕ) (v i j : ℕ) → i < j → j < length xs → v ≡ get_or xs i 0 → v ≡ get_or xs j 0 → 2 ≤ count_by (eqb v) xs
twice xs v i j less within ei ej =
    let f : ℕ → ℕ = λ x. cond (eqb v x) 1 0 in
    let front : f (get_or (take j xs) i 0) ≤ count_by (eqb v) (take j xs) = get_or-le-sum_by f (take j xs) i 0 (omega (arith, length-take-le j xs (omega arith))) in
    let more : count_by (eqb v) (take (j + 1) xs) ≡ count_by (eqb v) (take j xs) + 1 = count_by_more_yes (eqb v) xs j 0 within (eq-eqb v (get_or xs j 0) ej) in
    let all : count_by (eqb v) (take (j + 1) xs) ≤ count_by (eqb v) xs = sum_by-take-le f xs (j + 1) in
    grind (arith, common_steps)

-- so a table that holds each value once has no value at two places
pub alone : (l : List ℕ) → EachOnce l → (i j : ℕ) → i < 256 → j < 256 → get_or l i 0 < 256 → get_or l i 0 ≡ get_or l j 0 → i ≡ j
alone l p i j hi hj small e =
    let one = p.once (get_or l i 0) small in
    let long = p.long in
    grind (arith, twice l (get_or l i 0) i j, twice l (get_or l i 0) j i)
