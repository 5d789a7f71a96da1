use Rattle.std.proofs.Common.{length, ap, ◌∙◌, arith}
use Rattle.std.proofs.lemmas.Grind.{common_steps}
use Rattle.std.proofs.lemmas.List.FromFn.{fill_by_all}
use Rattle.oryx.specs.Steps.{times, stepped}
use Rattle.oryx.specs.Frames.{start, mask_byte, masked_byte, masked}
use Rattle.oryx.proofs.Turns.{times-add}
use Rattle.oryx.proofs.Masks.{masked_twice}
use Rattle.oryx.proofs.call.OryxCall.cipher.Goals as goal

pub loop-byte-init : goal.loop-byte-init
unfolding times
loop-byte-init c = grind (arith, common_steps)

pub loop-byte-preserved : goal.loop-byte-preserved
unfolding mask_byte
loop-byte-preserved c = grind (arith, common_steps, times-add c.loop-byte.byte-index stepped (start c.args.self.now c.args.hook))

pub returns-clause-after : goal.returns-clause-after
unfolding masked
returns-clause-after c =
    let old = c.args.body.now in
    fill_by_all (masked_byte c.args.self.now c.args.hook old) c.loop-byte.body (length old) 0 c.loop-byte.auto.body (λ k h. c.loop-byte.invariant.front k (omega arith))

pub returns-clause-undoes_itself : goal.returns-clause-undoes_itself
returns-clause-undoes_itself c = ap (masked _ _) (returns-clause-after c) ∙ masked_twice _ _ _
