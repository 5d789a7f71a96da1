use Rattle.std.proofs.Common.{◌≡◌, ◌*◌, length, arith}
use Rattle.std.proofs.lemmas.Grind.{common_steps}
use Rattle.std.proofs.lemmas.List.FromFn.{fill_by_all}
use Rattle.hex_field.specs.Hex.{is_field, field_byte, field_bytes}
use Rattle.hex_field.proofs.read_hex.Goals as goal

pub returns-clause-after : goal.returns-clause-after
unfolding is_field field_bytes
returns-clause-after c =
    let whole : length c.args.text.now ≡ 2 * length c.args.out.now = omega arith in
    grind (arith, whole, common_steps, fill_by_all (field_byte c.args.text.now) c.loop-k.out _ 0 c.loop-k.auto.out (grind arith))
