use Rattle.std.proofs.Common.{arith, rules}
use Rattle.cmea.specs.Substitution.{tbox}
use Rattle.cmea.proofs.Made.{made}
use Rattle.cmea.proofs.key.CmeaKey.new.Goals as goal

pub invariant_of-result : goal.invariant_of-result
invariant_of-result c =
    record { made = λ z h. made _ _ (tbox c.args.bytes) 256 (λ i y q l k. search rules) c.from_fn-substitution.result 0 256 z (omega arith) c.from_fn-substitution.ensures.items.each (omega arith) (omega arith) }
