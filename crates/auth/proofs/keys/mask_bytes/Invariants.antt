use Rattle.std.proofs.Common.{◌≡◌, ℕ, ◌+◌, ◌/◌, ◌<◌, get_or}
use Rattle.auth.specs.Keys.{iteration, mask_byte}
use Rattle.auth.proofs.keys.mask_bytes.Given as goal

abbrev pub invariant-loop-k : goal.invariant-loop-k
invariant-loop-k l = record { state : l.m ≡ iteration l.of ((l.k + 5) / 6 + 2); written : (j : ℕ) → j < l.k → get_or l.byte-items j 0 ≡ mask_byte (iteration l.of) j }
