-- What the law of a kind gives of whole ciphers.
use Rattle.std.specs.Prelude.{◌≡◌, ℕ, List, Option}
use Rattle.auth.specs.declared.types.OpeningRecord.{OpeningRecord}
use Rattle.cipher.specs.Kind.{Kind, Bytes, ciphered}

-- deciphering what was enciphered gives the body back: under every cipher value, keyed or not, every HOOK and every body
abbrev pub Returns : {C : Type 0} → (C → Kind) → Type 0
Returns {C = C} kind = (c : C) (keyed : Option OpeningRecord) (hook : ℕ) (xs : List ℕ) → Bytes xs → ciphered (kind c) keyed hook (ciphered (kind c) keyed hook xs) ≡ xs
