-- The rule of the first eight rows, from one test that antt computes, and what it says of a shuffle.
use Rattle.std.specs.Prelude.{if◌then◌else◌, ◌==◌, nat_lt}
use Rattle.std.proofs.Common.{◌≡◌, ℕ, zero, suc, ◌+◌, ◌*◌, ◌<◌, ◌≤◌, Bool, true, ◌&&◌, List, length, get_or, replicate, sym, refl, ◌∙◌, arith}
use lib.Bits.{and_le_r}
use Rattle.std.proofs.lemmas.Bool.{agree_below, agree_below_at, and_parts, eqb-true, ltb-true, eq-eqb}
use Rattle.std.proofs.lemmas.List.{length-set}
use Rattle.std.proofs.lemmas.Grind.{elements}
use Rattle.cave.specs.Table.{table, place, RowsPermute}
use Rattle.cave.specs.Mix.{turns}
use Rattle.cave.specs.Rounds.{put, shuffled}

-- the place of n in row k, looked for from m - 1 down
seek : ℕ → ℕ → ℕ → ℕ
seek zero k n = 0
seek (suc m) k n = if place k m == n then m else seek m k n

-- n stands in row k at that place, and nowhere else
test : ℕ → ℕ → Bool
test k n = nat_lt (seek 16 k n) 16 && agree_below (λ j. place k j == n) (λ j. j == seek 16 k n) 16

passes : agree_below (λ k. agree_below (test k) (λ _. true) 16) (λ _. true) 8 ≡ true
unfolding table place seek test
passes = refl

pub rows_permute : RowsPermute
unfolding test
rows_permute k n hk hn =
    let row = agree_below_at (λ k. agree_below (test k) (λ _. true) 16) (λ _. true) 8 k passes hk in
    let t = and_parts _ _ (agree_below_at (test k) (λ _. true) 16 n row hn) in
    let within : seek 16 k n < 16 = ltb-true _ _ t.0 in
    let same : (j : ℕ) → j < 16 → (place k j == n) ≡ (j == seek 16 k n) = λ j h. agree_below_at (λ j. place k j == n) (λ j. j == seek 16 k n) 16 j t.1 h in
    record { at = seek 16 k n; within = within; there = eqb-true _ _ (same _ within ∙ eq-eqb _ _ refl); alone = λ j h e. eqb-true _ _ (sym (same j h) ∙ eq-eqb _ _ e) }

place_below : (k i : ℕ) → place k i < 16
unfolding place
place_below k i = omega (arith, and_le_r (get_or table (16 * k + i) 0) 15)

apart : (k i j : ℕ) → k < 8 → i < 16 → j < 16 → place k i ≡ place k j → i ≡ j
apart k i j hk hi hj e =
    let o = rows_permute k (place k j) hk (place_below k j) in
    o.alone i hi e ∙ sym (o.alone j hj refl)

module _ (k : ℕ) (xs : List ℕ) where
  abbrev so_far : ℕ → List ℕ
  so_far n = turns (put k xs) n (replicate 16 0)

  length_so_far : (n : ℕ) → length (so_far n) ≡ 16
  unfolding turns
  length_so_far zero = refl
  length_so_far (suc n) = length-set _ _ _ ∙ length_so_far n

  moved_so_far : (n i : ℕ) → k < 8 → n ≤ 16 → i < n → get_or (so_far n) (place k i) 0 ≡ get_or xs i 0
  unfolding turns
  moved_so_far zero i hk hn hi = omega arith
  moved_so_far (suc n) i hk hn hi = grind (arith, elements, length_so_far n, place_below, apart k i n, moved_so_far n i)

  below_so_far : ((i : ℕ) → get_or xs i 0 < 256) → (n j : ℕ) → get_or (so_far n) j 0 < 256
  unfolding turns
  below_so_far small zero j = grind (arith, elements)
  below_so_far small (suc n) j = grind (arith, elements, length_so_far n, place_below k n, small n, below_so_far small n j)

  -- what stood at i stands at the place that row k names
  pub shuffle_moves : (i : ℕ) → k < 8 → i < 16 → get_or (shuffled k xs) (place k i) 0 ≡ get_or xs i 0
  unfolding shuffled
  shuffle_moves i hk hi = moved_so_far 16 i hk (omega arith) hi

  pub length_shuffled : length (shuffled k xs) ≡ 16
  unfolding shuffled
  length_shuffled = length_so_far 16

  -- bytes stay bytes
  pub shuffled_below : ((i : ℕ) → get_or xs i 0 < 256) → (j : ℕ) → get_or (shuffled k xs) j 0 < 256
  unfolding shuffled
  shuffled_below small j = below_so_far small 16 j
