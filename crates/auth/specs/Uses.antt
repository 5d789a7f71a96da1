-- The answers of the uses of CAVE, each from its input.
use Rattle.std.specs.Prelude.{ℕ}
use Rattle.cave.specs.Rounds.{after_rounds}
use Rattle.auth.specs.Loading.{akey_loading, ssd_loading, signature_loading}
use Rattle.auth.specs.Reading.{eighteen, ssd_of, signed_of}
use Rattle.auth.specs.declared.types.TerminalKey.{TerminalKey}
use Rattle.auth.specs.declared.types.Renewal.{Renewal}
use Rattle.auth.specs.declared.types.Challenge.{Challenge}
use Rattle.auth.specs.declared.types.Ssd.{Ssd}
use Rattle.auth.specs.declared.types.Signed.{Signed}

-- the 18-bit check of an A-key
abbrev pub akey_check_of : TerminalKey → ℕ
akey_check_of q = eighteen (after_rounds 8 (akey_loading q))

-- new shared secret data
abbrev pub new_ssd_of : Renewal → Ssd
new_ssd_of q = ssd_of (after_rounds 8 (ssd_loading q))

-- the authentication signature of a challenge, with what its run leaves
abbrev pub signature_of : Challenge → Signed
signature_of q = signed_of (after_rounds 8 (signature_loading q))
