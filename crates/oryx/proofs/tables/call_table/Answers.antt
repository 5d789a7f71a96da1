use Rattle.std.proofs.Common.{add-one, arith, rules}
use Rattle.std.proofs.lemmas.Grind.{common_steps}
use Rattle.std.proofs.lemmas.List.FromFn.{length-range_with_len}
use Rattle.oryx.specs.Steps.{times}
use Rattle.oryx.specs.Tables.{exchanges}
use Rattle.oryx.proofs.tables.call_table.Goals as goal

pub loop-i-init : goal.loop-i-init
unfolding exchanges times
loop-i-init c = grind (arith, common_steps, length-range_with_len)

pub loop-i-preserved : goal.loop-i-preserved
unfolding exchanges times
loop-i-preserved c = (search rules, rw add-one cc, rw add-one cc)
