use Rattle.std.proofs.Common.{◌≡◌, ◌<◌}
use Rattle.cave.specs.Mix.{tried}
use Rattle.cave.proofs.fn.mix.search.Given as goal

abbrev pub invariant-loop-r : goal.invariant-loop-r
invariant-loop-r l = (0 < l.left) × (tried l.side l.left l.r 0 l.lfsr l.offset ≡ tried l.side 32 l.r 0 l.initial.lfsr l.initial.offset)

abbrev pub decreases-loop-r : goal.decreases-loop-r
decreases-loop-r l = l.left
