use Rattle.std.proofs.Common.{ap, ◌∙◌}
use Rattle.oryx.specs.Frames.{masked}
use Rattle.oryx.proofs.Masks.{masked_zeros}
use Rattle.oryx.proofs.call.OryxCall.mask.Goals as goal

pub returns : goal.returns
returns c = c.cipher.ensures.after ∙ ap (masked c.args.self.now c.args.hook) (c.fill.ensures.after (λ y e. e)) ∙ masked_zeros _ _ _
