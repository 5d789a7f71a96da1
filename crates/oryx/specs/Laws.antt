-- What holds of every call.
use Rattle.std.specs.Prelude.{◌≡◌, ℕ, ◌^◌, ◌<◌, ◌≢◌, ◌⊎◌, List, length, count_by, nat_eq}
use Rattle.oryx.specs.declared.call.OryxCall.{OryxCall}
use Rattle.oryx.specs.Frames.{word, start}

-- a table of 256 entries holds each byte value once
pub record EachOnce (table : List ℕ) : Type 0 where
  pub long : length table ≡ 256
  pub once : (value : ℕ) → value < 256 → count_by (nat_eq value) table ≡ 1

-- the words 0 and 0x31415926, in either order: K steps from both to the same, since it replaces 0 by the other
abbrev pub ZeroAndItsStandIn : ℕ → ℕ → Type 0
ZeroAndItsStandIn v w = ((v ≡ 0) × (w ≡ 0x31415926)) ⊎ ((v ≡ 0x31415926) × (w ≡ 0))

-- two different HOOKs start register A differently, unless they look up these two words; then they start it alike
pub record StartsApart (call : OryxCall) : Type 0 where
  pub apart : (hook other : ℕ) → hook < 2 ^ 32 → other < 2 ^ 32 → hook ≢ other → (ZeroAndItsStandIn (word call.table hook) (word call.table other) → ⊥) → (start call hook).a ≢ (start call other).a
  pub alike : (hook other : ℕ) → ZeroAndItsStandIn (word call.table hook) (word call.table other) → (start call hook).a ≡ (start call other).a
