use Rattle.std.proofs.Common.{◌≡◌, ◌+◌, ◌/◌, arith}
use Rattle.std.proofs.lemmas.Grind.{common_steps}
use Rattle.std.proofs.lemmas.List.FromFn.{fill_by_all}
use Rattle.auth.specs.Keys.{voice_mask_of, mask_byte, iteration}
use Rattle.auth.proofs.Derived.{next}
use Rattle.auth.proofs.keys.mask_bytes.Goals as goal

pub loop-k-preserved : goal.loop-k-preserved
loop-k-preserved c =
    let state : c.if-at-eq0.m ≡ iteration c.args.of (c.loop-k.k / 6 + 3) = grind (arith, next c.args.of ((c.loop-k.k + 5) / 6 + 2)) in
    record { state = grind arith; written = grind (arith, common_steps) }

pub returns : goal.returns
unfolding voice_mask_of
returns c = fill_by_all (mask_byte (iteration c.args.of)) _ 65 0 (omega arith) (grind arith)
