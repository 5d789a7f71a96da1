use Rattle.std.proofs.Common.{◌≡◌, replicate}
use Rattle.cave.specs.Mix.{turns}
use Rattle.cave.specs.Rounds.{put}
use Rattle.cave.proofs.shuffle.Given as goal

abbrev pub invariant-loop-i : goal.invariant-loop-i
invariant-loop-i l = l.out ≡ turns (put l.k l.fn.registers) l.i (replicate 16 0)
