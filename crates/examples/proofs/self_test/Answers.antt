use Rattle.std.proofs.Common.{refl}
use Rattle.cave.specs.Table.{table}
use Rattle.cmea.specs.Substitution.{tbox}
use Rattle.cmea.specs.Passes.{first_pass, second_pass, third_pass}
use Rattle.cmea.specs.Ciphering.{image}
use Rattle.examples.proofs.self_test.Goals as goal

-- by the answer of each check in turn: it is stuck at one that `self_test` does not use
pub returns-clause-passes : goal.returns-clause-passes
unfolding table tbox first_pass second_pass third_pass image
returns-clause-passes c =
    let there = c.become_these.ensures.1 refl in
    let back = c.become_these-2.ensures.1 refl in
    rw (c.keys_agree.ensures, c.cycles_agree.ensures, c.steps_agree.ensures, there, back) refl
