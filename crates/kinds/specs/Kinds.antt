-- The cipher kinds of TR45.0.A.
use Rattle.std.specs.Prelude.{ℕ, if◌then◌else◌, List, ◌∷◌, length, nat_lt}
use Rattle.auth.specs.declared.types.OpeningRecord.{OpeningRecord}
use Rattle.auth.specs.Keys.{cmea_key_of}
use Rattle.cipher.specs.Kind.{Kind, here}
use Rattle.cmea.specs.Ciphering.{image as cmea_image}
use Rattle.oryx.specs.declared.call.OryxCall.{OryxCall}
use Rattle.oryx.specs.Frames.{call_of, masked}

-- the kind of a cipher that sees the length of a body itself
abbrev pub kind_of : ℕ → (OpeningRecord → ℕ → List ℕ → List ℕ) → Kind
kind_of least image = record { least = least; image = image; tells = here }

-- the image of a body, or where it is under the least length the body as it was
abbrev pub unless_short : ℕ → (List ℕ → List ℕ) → List ℕ → List ℕ
unless_short least image xs = if nat_lt (length xs) least then xs else image xs

-- CMEA: from 2 bytes to 64, as every kind, under the CMEA key of the call; every frame alike
abbrev pub cmea_kind : Kind
cmea_kind = kind_of 2 (λ o hook xs. cmea_image (cmea_key_of o) xs)

-- ORYX: from 0 bytes on, with the mask of the frame XORed onto the body
abbrev pub oryx_kind : Kind
oryx_kind = kind_of 0 (λ o hook xs. masked (call_of o.ssd_b o.rand) hook xs)

-- all that an ORYX call holds
abbrev pub call_material : OryxCall → List ℕ
call_material call = call.data_key ∷ call.table
