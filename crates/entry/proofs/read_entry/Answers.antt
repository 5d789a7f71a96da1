use Rattle.std.proofs.Common.{◌≤◌, length, arith, rules}
use Rattle.std.proofs.lemmas.Bool.Decides.{nat_tests}
use Rattle.entry.proofs.Answer.{answered, outcome}
use Rattle.entry.proofs.read_entry.Goals as goal

pub returns-in_err-key-clause-says : goal.returns-in_err-key-clause-says
returns-in_err-key-clause-says c =
    let most : length c.args.typed.now ≤ 26 = omega arith in
    answered _ _ _ (search rules)

pub returns-then-check_number-akey_check-clause-result : goal.returns-then-check_number-akey_check-clause-result
returns-then-check_number-akey_check-clause-result c = grind (arith, nat_tests, outcome c.args.esn c.args.typed.now _ _ _ (search rules) (omega arith) c.in_ok-key.ensures c.check_number.ensures c.akey_check.ensures.result)

pub returns-then-check_number-akey_check-clause-says : goal.returns-then-check_number-akey_check-clause-says
returns-then-check_number-akey_check-clause-says c = answered _ _ _ (returns-then-check_number-akey_check-clause-result c)

pub returns-clause-result : goal.returns-clause-result
returns-clause-result c = grind (arith, nat_tests, outcome c.args.esn c.args.typed.now _ _ _ (search rules) (omega arith) c.in_ok-key.ensures c.check_number.ensures c.akey_check.ensures.result)

pub returns-clause-says : goal.returns-clause-says
returns-clause-says c = answered _ _ _ (returns-clause-result c)
