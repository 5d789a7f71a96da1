use Rattle.std.proofs.Common.{◌≡◌, ◌++◌, take, drop}
use Rattle.cmea.specs.Substitution.{tbox}
use Rattle.cmea.specs.Passes.{third_pass}
use Rattle.cmea.proofs.key.CmeaKey.lower.Given as goal

-- what is done, and what the pass makes of the rest, is the whole
abbrev pub invariant-loop-i : goal.invariant-loop-i
invariant-loop-i l = take l.i l.message ++ third_pass (tbox l.self.bytes) l.i l.z (drop l.i l.message) ≡ third_pass (tbox l.self.bytes) 0 0 l.initial.message
