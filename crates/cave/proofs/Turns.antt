-- Turns, one at a time.
use Rattle.std.proofs.Common.{◌≡◌, ℕ, ◌+◌, refl, add-one}
use Rattle.cave.specs.Mix.{turns}

module _ {S : Type 0} (f : ℕ → S → S) where
  pub turns_none : (s : S) → turns f 0 s ≡ s
  unfolding turns
  turns_none s = refl

  pub turns_more : (n : ℕ) (s : S) → turns f (n + 1) s ≡ f n (turns f n s)
  unfolding turns
  turns_more n s = rw add-one refl

pub ruleset turning = (turns_none, turns_more)
