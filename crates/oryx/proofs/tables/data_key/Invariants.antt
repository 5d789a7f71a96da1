use Rattle.std.proofs.Common.{◌≡◌}
use Rattle.oryx.specs.Steps.{times}
use Rattle.oryx.specs.Tables.{hash_round}
use Rattle.oryx.proofs.tables.data_key.Given as goal

abbrev pub invariant-loop : goal.invariant-loop
invariant-loop l = (l.stream.table ≡ l.initial.stream.table) × (l.stream.registers ≡ times l.counter (hash_round l.initial.stream.table.now) l.initial.stream.registers)
