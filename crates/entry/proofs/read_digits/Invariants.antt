use Rattle.std.proofs.Common.{◌≡◌, ◌%◌, ◌^◌, min, take, drop}
use Rattle.entry.specs.Digits.{first_bad, decimal}
use Rattle.entry.proofs.read_digits.Given as goal

abbrev pub invariant-loop-index : goal.invariant-loop-index
invariant-loop-index l = (first_bad (drop l.index l.bytes) l.index ≡ first_bad l.bytes 0) × (l.key ≡ decimal (take (min l.index l.key_count) l.bytes) % 2 ^ 64)
