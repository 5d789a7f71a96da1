-- One more turn of a loop.
use Rattle.std.proofs.Common.{◌≡◌, ℕ, ◌+◌, add-one}
use Rattle.oryx.specs.Steps.{times}

pub times-add : {X : Type 0} (n : ℕ) (f : X → X) (x : X) → times (n + 1) f x ≡ f (times n f x)
unfolding times
times-add n f x = rw add-one
