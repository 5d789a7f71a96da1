-- The laws of each kind, from those of its cipher.
use Rattle.std.specs.Prelude.{◌≡◌, ℕ, ◌<◌, List, ◌∷◌}
use Rattle.std.proofs.Common.{get_or, arith}
use Rattle.std.proofs.lemmas.List.Elements.{All-get_or}
use Rattle.std.proofs.lemmas.List.{get_or_past}
use Rattle.auth.specs.declared.types.OpeningRecord.{OpeningRecord}
use Rattle.auth.specs.Keys.{cmea_key_of}
use Rattle.cipher.specs.Kind.{Lawful, Bytes}
use Rattle.cmea.proofs.Laws.{image_length, image_twice}
use Rattle.cmea.specs.Ciphering.{image as cmea_image}
use Rattle.oryx.proofs.Masks.{masked_length, masked_twice}
use Rattle.oryx.specs.declared.call.OryxCall.{OryxCall}
use Rattle.oryx.specs.Frames.{call_of, masked}
use Rattle.oryx.specs.Tables.{data_key_of, call_table}
use Rattle.kinds.specs.Kinds.{call_material, cmea_kind, oryx_kind}

-- a list of bytes is read as bytes at every place, with 0 past its end
bytes_at : (xs : List ℕ) → Bytes xs → (k : ℕ) → get_or xs k 0 < 256
bytes_at xs bytes k = grind (arith, All-get_or (λ x. x < 256) xs k 0, get_or_past xs k 0)

-- CMEA under the key of a record ciphers as the kind does under that record
pub cmea_effect : (bytes : List ℕ) (o : OpeningRecord) → bytes ≡ cmea_key_of o → (λ (hook : ℕ) (xs : List ℕ). cmea_image bytes xs) ≡ cmea_kind.image o
cmea_effect bytes o same = rw same

-- CMEA keeps the length and undoes itself
pub cmea_lawful : Lawful cmea_kind
cmea_lawful =
    record {
      small = omega arith;
      same_length = λ o hook xs bytes low high. image_length (cmea_key_of o) xs;
      undoes_itself = λ o hook xs bytes low high. image_twice (cmea_key_of o) xs (bytes_at xs bytes);
    }

-- an ORYX call of this DataKey and this table is the record of the two
same_call : (call : OryxCall) (key : ℕ) (table : List ℕ) → call_material call ≡ key ∷ table → call ≡ record { data_key = key; table = table }
same_call call key table same =
    let same_key : call.data_key ≡ key = cc in
    let same_table : call.table ≡ table = cc in
    rw (← same_key, ← same_table)

-- an ORYX call that holds what the call of a record does masks as the kind does under that record
pub oryx_effect : (call : OryxCall) (o : OpeningRecord) → call_material call ≡ call_material (call_of o.ssd_b o.rand) → masked call ≡ oryx_kind.image o
oryx_effect call o same = rw (same_call call (data_key_of o.ssd_b) (call_table o.rand) same)

-- ORYX keeps the length and undoes itself
pub oryx_lawful : Lawful oryx_kind
oryx_lawful =
    record {
      small = omega arith;
      same_length = λ o hook xs bytes low high. masked_length (call_of o.ssd_b o.rand) hook xs;
      undoes_itself = λ o hook xs bytes low high. masked_twice (call_of o.ssd_b o.rand) hook xs;
    }
