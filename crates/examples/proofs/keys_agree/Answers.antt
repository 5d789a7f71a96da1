use Rattle.std.proofs.Common.{refl}
use Rattle.entry.specs.Digits.{first_bad}
use Rattle.examples.proofs.keys_agree.Goals as goal

-- by the answer for each key in turn: it is stuck at one that `keys_agree` does not use
pub returns : goal.returns
unfolding first_bad
returns c = rw (c.gives.ensures.1 refl, c.gives-2.ensures.1 refl, c.gives-3.ensures.1 refl, c.gives-4.ensures.1 refl) refl
