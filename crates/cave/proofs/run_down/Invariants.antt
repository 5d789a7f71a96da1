use Rattle.std.proofs.Common.{◌≡◌}
use Rattle.cave.specs.Rounds.{after_rounds}
use Rattle.cave.proofs.run_down.Given as goal

abbrev pub invariant-loop-k : goal.invariant-loop-k
invariant-loop-k l = after_rounds l.k l.m ≡ after_rounds l.n l.initial.m
