-- The keying of a terminal from beginning to end.
use Rattle.std.specs.Prelude.{ℕ, Ok, Err, Result}
use Rattle.auth.specs.Keys.{call_keys_of}
use Rattle.auth.specs.Uses.{new_ssd_of, signature_of}
use Rattle.auth.specs.declared.types.OpeningRecord.{OpeningRecord}
use Rattle.auth.specs.declared.types.Signed.{Signed}
use Rattle.auth.specs.declared.types.Ssd.{Ssd}
use Rattle.refusal.specs.declared.Refusal.{Refusal}
use Rattle.keying.specs.declared.terminal.Numbers.{Numbers}
use Rattle.keying.specs.declared.terminal.Keyed.{Keyed}

-- what the opening leaves once it is signed
abbrev pub opened : ℕ → Numbers → Ssd → Signed → OpeningRecord
opened esn n ssd s =
    record { ssd_b = ssd.b; esn = esn; rand = n.rand; auth_data = n.auth_data; left = s.left }

-- the secrets and keys that follow from an A-key
abbrev pub keyed_with : ℕ → Numbers → ℕ → Keyed
keyed_with esn n key =
    let ssd : Ssd = new_ssd_of (record { esn = esn; key = key; rand_ssd = n.rand_ssd }) in
    let signed : Signed = signature_of (record { esn = esn; secret = ssd.a; rand = n.rand; auth_data = n.auth_data }) in
    record { key = key; ssd = ssd; signature = signed.signature; call = call_keys_of (opened esn n ssd signed) }

-- all of them, if the entry is accepted; else its refusal
abbrev pub keyed : ℕ → Numbers → Result ℕ Refusal → Result Keyed Refusal
keyed esn n (Ok key) = Ok (keyed_with esn n key)
keyed esn n (Err e) = Err e
