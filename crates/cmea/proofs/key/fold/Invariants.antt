use Rattle.std.proofs.Common.{◌≡◌, ℕ, ◌<◌, ◌≤◌, get_or}
use Rattle.cmea.specs.Passes.{folded}
use Rattle.cmea.proofs.key.fold.Given as goal

-- the bytes of the first half that are done are folded, and the others are as they were
abbrev pub invariant-loop-i : goal.invariant-loop-i
invariant-loop-i l =
    record {
      done : (k : ℕ) → k < l.i → get_or l.front k 0 ≡ folded l.fn.message k;
      rest : (k : ℕ) → l.i ≤ k → get_or l.front k 0 ≡ get_or l.initial.front k 0;
    }
