use Rattle.std.proofs.Common.{◌≡◌, ℕ, ◌*◌, ◌/◌, ◌%◌, ◌^◌, ◌<◌, ap, ◌∙◌, div-one, arith, rules}
use lib.Bits.{bit_or, or_shifted_r}
use Rattle.cave.specs.Bytes.{wide}
use Rattle.cave.specs.Rounds.{rotated, turned}
use Rattle.cave.proofs.rotate.Goals as goal

-- what `rotate_right(1)` gives
turned_is : (n : ℕ) → n < 2 ^ 128 → bit_or (n / 2 ^ 1) ((n * 2 ^ 127) % 2 ^ 128) ≡ turned n
unfolding turned
turned_is n h =
    let top : (n * 2 ^ 127) % 2 ^ 128 ≡ n % 2 * 2 ^ 127 = omega arith in
    rw (top, or_shifted_r (n % 2) 127 (n / 2) (omega arith)) (omega arith)

pub returns : goal.returns
unfolding rotated wide
returns c =
    let joined : c.from_be_bytes.result ≡ wide 16 c.args.registers = omega (arith, c.from_be_bytes.ensures) in
    let turn : c.rotate_right.result ≡ turned (wide 16 c.args.registers) = c.rotate_right.ensures ∙ turned_is c.from_be_bytes.result (search rules) ∙ ap turned joined in
    simp (c.to_be_bytes.ensures, turn, div-one)
