use Rattle.std.proofs.Common.{arith}
use Rattle.std.proofs.lemmas.Grind.{common_steps}
use Rattle.oryx.specs.Tables.{hash, hash_start}
use Rattle.oryx.proofs.tables.data_key.Goals as goal

pub returns : goal.returns
unfolding hash hash_start
returns c = grind (arith, common_steps)
