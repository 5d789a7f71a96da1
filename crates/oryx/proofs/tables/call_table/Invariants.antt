use Rattle.std.proofs.Common.{◌≡◌, length}
use Rattle.oryx.specs.Steps.{times, step_k}
use Rattle.oryx.specs.Tables.{exchanges}
use Rattle.oryx.proofs.tables.call_table.Given as goal

abbrev pub invariant-loop-i : goal.invariant-loop-i
invariant-loop-i l = (length l.table ≡ 256) × (l.table ≡ exchanges l.i l.initial.k) × (l.k ≡ times l.i step_k l.initial.k)
