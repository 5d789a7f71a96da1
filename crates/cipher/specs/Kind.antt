-- What a cipher kind is, its law, and what ciphering answers and leaves.
use Rattle.std.specs.Prelude.{◌≡◌, ℕ, ◌<◌, ◌≤◌, Bool, if◌then◌else◌, ◌&&◌, List, All, length, Some, None, Ok, Err, Option, Result, nat_le}
use Rattle.auth.specs.declared.types.OpeningRecord.{OpeningRecord}
use Rattle.cipher.specs.declared.fault.CipherFault.{CipherFault}
use Rattle.cipher.specs.declared.fault.CipherFault.TheVariants.{NotKeyed, WrongLength}

-- a length that was refused: how many bytes were seen, and how many layers lie above the one that saw them
pub record Seen : Type 0 where
  pub bytes : ℕ
  pub layers : ℕ

-- a kind: the least length of a body, the image of a body under an opening record and a HOOK, and what is told of a refused length
pub record Kind : Type 0 where
  pub least : ℕ
  pub image : OpeningRecord → ℕ → List ℕ → List ℕ
  pub tells : ℕ → Seen

-- every number of the list is a byte
abbrev pub Bytes : List ℕ → Type 0
Bytes xs = All (λ x. x < 256) xs

-- n bytes are from the least length to 64
abbrev pub within : ℕ → ℕ → Bool
within least n = nat_le least n && nat_le n 64

-- the law of a kind, over bodies from its least length to 64: the image has the body's length, and its image is the body
pub record Lawful (k : Kind) : Type 0 where
  pub small : k.least ≤ 65
  pub same_length : (o : OpeningRecord) (hook : ℕ) (xs : List ℕ) → Bytes xs → k.least ≤ length xs → length xs ≤ 64 → length (k.image o hook xs) ≡ length xs
  pub undoes_itself : (o : OpeningRecord) (hook : ℕ) (xs : List ℕ) → Bytes xs → k.least ≤ length xs → length xs ≤ 64 → k.image o hook (k.image o hook xs) ≡ xs

-- the fault that tells of a refused length
abbrev pub fault_of : Seen → CipherFault
fault_of s = WrongLength s.bytes s.layers

-- n bytes are seen, and no layer lies above
abbrev pub here : ℕ → Seen
here n = record { bytes = n; layers = 0 }

-- the answer of a cipher that sees the length of a body itself
abbrev pub sees : ℕ → ℕ → Result (Unit {0}) CipherFault
sees least n = if within least n then Ok tt else Err (fault_of (here n))

-- the answer to ciphering n bytes: refused if not keyed, then if the kind does not take the length, and for nothing else
abbrev pub answers : Kind → Option OpeningRecord → ℕ → Result (Unit {0}) CipherFault
answers k None n = Err NotKeyed
answers k (Some o) n = if within k.least n then Ok tt else Err (fault_of (k.tells n))

-- the body afterwards: its image, or where it is refused the body as it was
abbrev pub ciphered : Kind → Option OpeningRecord → ℕ → List ℕ → List ℕ
ciphered k None hook xs = xs
ciphered k (Some o) hook xs = if within k.least (length xs) then k.image o hook xs else xs
