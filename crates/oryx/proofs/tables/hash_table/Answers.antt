use Rattle.std.proofs.Common.{ℕ, ◌+◌, arith, rules}
use Rattle.std.proofs.lemmas.Grind.{common_steps}
use Rattle.std.proofs.lemmas.List.FromFn.{fill_by_all}
use Rattle.oryx.specs.Steps.{times, high, step_k}
use Rattle.oryx.specs.Tables.{hash_table}
use Rattle.oryx.proofs.Turns.{times-add}
use Rattle.oryx.proofs.tables.hash_table.Goals as goal

pub loop-entry-init : goal.loop-entry-init
unfolding times
loop-entry-init c = search rules

pub loop-entry-preserved : goal.loop-entry-preserved
loop-entry-preserved c = grind (arith, common_steps, times-add c.loop-entry.entry-index step_k c.args.start)

pub returns-clause-table : goal.returns-clause-table
unfolding hash_table
returns-clause-table c = fill_by_all (λ (j : ℕ). high (times (j + 1) step_k c.args.start)) _ 256 0 (search rules) (λ j h. c.loop-entry.invariant.0 j (omega arith))
