use Rattle.std.proofs.Common.{◌≡◌, refl, rules}
use Rattle.cmea.specs.Ciphering.{image, ciphered}
use Rattle.cmea.proofs.Laws.{ciphered_length, ciphered_twice, ciphered_turns}
use Rattle.cmea.proofs.key.CmeaKey.cipher.Goals as goal

pub returns : goal.returns
unfolding image
returns c =
    let key = c.args.self.now.bytes in
    let old = c.args.message.now in
    let is : c.lower.new.message ≡ ciphered key old = search rules in
    rw is (record {
      answer = search rules;
      after = refl;
      length_stays = ciphered_length key old;
      undoes_itself = ciphered_twice key old (search rules);
      turns_lowest_bit = ciphered_turns key old;
    })
