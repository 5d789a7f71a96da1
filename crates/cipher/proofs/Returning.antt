-- Ciphering twice gives the body back.
use Rattle.std.specs.Prelude.{◌≡◌, ℕ, List, Some, None, Option, refl}
use Rattle.std.proofs.Common.{arith}
use Rattle.std.proofs.lemmas.Bool.Decides.{nat_tests}
use Rattle.auth.specs.declared.types.OpeningRecord.{OpeningRecord}
use Rattle.cipher.specs.Kind.{Kind, Lawful, Bytes, ciphered}

pub ciphered_twice : (k : Kind) → Lawful k → (o : Option OpeningRecord) (hook : ℕ) (xs : List ℕ) → Bytes xs → ciphered k o hook (ciphered k o hook xs) ≡ xs
ciphered_twice k law None hook xs bytes = refl
ciphered_twice k law (Some o) hook xs bytes = grind (arith, nat_tests, law.same_length o hook xs bytes, law.undoes_itself o hook xs bytes)
