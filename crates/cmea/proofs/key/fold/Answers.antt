use Rattle.std.proofs.Common.{length, arith}
use Rattle.std.proofs.lemmas.Grind.{common_steps}
use Rattle.std.proofs.lemmas.List.FromFn.{fill_by_all}
use Rattle.cmea.specs.Passes.{folded, second_pass}
use Rattle.cmea.proofs.key.fold.Goals as goal

pub returns : goal.returns
unfolding second_pass
returns c =
    let old = c.args.message.now in
    fill_by_all (folded old) _ (length old) 0 (grind (arith, common_steps)) (λ k h. grind (arith, common_steps, c.loop-i.invariant.done k))
