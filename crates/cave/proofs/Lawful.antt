-- Every run obeys the law of a run, and leaves bytes in its registers.
use Rattle.std.proofs.Common.{◌≡◌, ℕ, zero, suc, ◌+◌, ◌-◌, ◌%◌, ◌<◌, ◌≤◌, length, get_or, refl, ◌∙◌, sub-one, arith}
use Rattle.std.proofs.lemmas.List.{length-set}
use Rattle.std.proofs.lemmas.Grind.{elements}
use Rattle.std.proofs.lemmas.Bool.Decides.{nat_tests}
use Rattle.cave.specs.Bytes.{bytes}
use Rattle.cave.specs.Law.{Treats, Mixing, Round, Run}
use Rattle.cave.specs.Mix.{turns, right_of, mixed_at, mixed}
use Rattle.cave.specs.Rounds.{round, after_rounds, rotated}
use Rattle.cave.specs.declared.state.CaveState.{CaveState}
use Rattle.cave.proofs.Halves.{search_law}
use Rattle.cave.proofs.Turns.{turns_more}
use Rattle.cave.proofs.Permutes.{rows_permute, shuffle_moves, length_shuffled, shuffled_below}

pub rounds_more : (n : ℕ) (m : CaveState) → 0 < n → after_rounds n m ≡ after_rounds (n - 1) (round (n - 1) m)
unfolding after_rounds
rounds_more zero m p = absurd (omega arith)
rounds_more (suc n) m p = rw sub-one refl

pub rounds_none : (n : ℕ) (m : CaveState) → n ≡ 0 → after_rounds n m ≡ m
unfolding after_rounds
rounds_none n m e = rw e refl

module _ (start : CaveState) (sixteen : length start.registers ≡ 16) where
  abbrev saved : ℕ
  saved = get_or start.registers 0 0

  abbrev at : ℕ → CaveState
  at i = turns (mixed_at saved) i start

  length_at : (i : ℕ) → length (at i).registers ≡ 16
  unfolding turns mixed_at
  length_at zero = sixteen
  length_at (suc i) = length-set _ _ _ ∙ length_at i

  -- a register that has not been met is as the round began
  untouched : (i j : ℕ) → i ≤ j → get_or (at i).registers j 0 ≡ get_or start.registers j 0
  unfolding turns mixed_at
  untouched zero j h = refl
  untouched (suc i) j h = grind (arith, elements, untouched i j)

  neighbour : (i : ℕ) → i < 16 → right_of saved i (at i).registers ≡ get_or start.registers ((i + 1) % 16) 0
  neighbour i h = grind (arith, nat_tests, untouched i (i + 1))

  treats_next : (i : ℕ) → i < 16 → Treats start i (at i) (mixed_at saved i (at i))
  unfolding mixed_at
  treats_next i h =
      record {
        low = _;
        high = _;
        low_search = search_law _ _ _ _;
        high_search = search_law _ _ _ _;
        written = grind (arith, elements, neighbour i h, length_at i);
        others = λ j d. grind (arith, elements);
        lfsr = refl;
        offset1 = refl;
        offset2 = refl;
      }

  mixing : Mixing start (mixed start)
  unfolding mixed turns
  mixing =
      record {
        before = at;
        begins = refl;
        ends = refl;
        each = λ i h. rw (turns_more (mixed_at saved) i start) (treats_next i h);
      }

  pub round_law : (k : ℕ) → k < 8 → Round k start (round k start)
  round_law k h =
      record {
        between = mixed start;
        mixes = mixing;
        moves = λ i. shuffle_moves k (rotated (mixed start).registers) i h;
        loses_none = λ j hj. let o = rows_permute k j h hj in (o.at, o.within, o.there);
        sixteen = length_shuffled k (rotated (mixed start).registers);
        lfsr = refl;
        offset1 = refl;
        offset2 = refl;
      }

pub run_law : (n : ℕ) (m : CaveState) → n ≤ 8 → length m.registers ≡ 16 → Run n m (after_rounds n m)
unfolding after_rounds
run_law zero m h s = refl
run_law (suc n) m h s =
    let r = round_law m s n (omega arith) in
    (round n m, r, run_law n (round n m) (omega arith) r.sixteen)

-- a run ends with the round of index 0, so what that round gives of every state holds after a run
after_last : (P : CaveState → Type 0) → ((m : CaveState) → P (round 0 m)) → (n : ℕ) (m : CaveState) → 0 < n → P (after_rounds n m)
unfolding after_rounds
after_last P f zero m p = absurd (omega arith)
after_last P f (suc zero) m p = f m
after_last P f (suc (suc n)) m p = after_last P f (suc n) (round (suc n) m) (omega arith)

-- each byte of a number is below 256
bytes_below : (n w i : ℕ) → get_or (bytes n w) i 0 < 256
bytes_below zero w i = omega arith
bytes_below (suc n) w zero = omega arith
bytes_below (suc n) w (suc i) = bytes_below n w i

-- after a round every register is a byte, whatever it was before
pub registers_below : (n : ℕ) (m : CaveState) → 0 < n → (i : ℕ) → get_or (after_rounds n m).registers i 0 < 256
unfolding rotated
registers_below n m p i = after_last (λ m. get_or m.registers i 0 < 256) (λ m. shuffled_below 0 (rotated (mixed m).registers) (bytes_below 16 _) i) n m p

pub registers_sixteen : (n : ℕ) (m : CaveState) → 0 < n → length (after_rounds n m).registers ≡ 16
registers_sixteen = after_last (λ m. length m.registers ≡ 16) (λ m. length_shuffled 0 (rotated (mixed m).registers))

-- what the loop of `run_down` goes by, and what it ends with
pub ruleset rounds = (rounds_more, rounds_none, run_law, rows_permute)
