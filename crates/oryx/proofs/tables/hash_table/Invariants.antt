use Rattle.std.proofs.Common.{◌≡◌, ℕ, ◌+◌, ◌<◌, get_or}
use Rattle.oryx.specs.Steps.{times, high, step_k}
use Rattle.oryx.proofs.tables.hash_table.Given as goal

abbrev pub invariant-loop-entry : goal.invariant-loop-entry
invariant-loop-entry l = ((j : ℕ) → j < l.entry-index → get_or l.entry-items j 0 ≡ high (times (j + 1) step_k l.initial.k)) × (l.k ≡ times l.entry-index step_k l.initial.k)
