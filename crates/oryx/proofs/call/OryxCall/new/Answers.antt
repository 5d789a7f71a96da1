use Rattle.std.proofs.Common.{arith}
use Rattle.oryx.proofs.Once.{table_each_once}
use Rattle.oryx.proofs.Apart.{starts_apart}
use Rattle.oryx.proofs.call.OryxCall.new.Goals as goal

pub returns-clause-each_once : goal.returns-clause-each_once
returns-clause-each_once c = grind (arith, table_each_once c.args.rand)

pub returns-clause-starts_apart : goal.returns-clause-starts_apart
returns-clause-starts_apart c = grind (arith, starts_apart c.args.ssd_b c.args.rand)
