use Rattle.std.proofs.Common.{◌≡◌}
use Rattle.cave.specs.Mix.{turns, mixed_at}
use Rattle.cave.proofs.mix.Given as goal

abbrev pub invariant-loop-i : goal.invariant-loop-i
invariant-loop-i l = l.m ≡ turns (mixed_at l.saved) l.i l.initial.m
