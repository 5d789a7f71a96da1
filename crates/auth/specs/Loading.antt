-- What the uses of CAVE load.
use Rattle.std.specs.Prelude.{ℕ, ◌/◌, ◌%◌, ◌^◌, if◌then◌else◌, List, ◌∷◌, ◌++◌, ◌==◌, bit_xor}
use Rattle.cave.specs.Bytes.{wide, bytes, part}
use Rattle.cave.specs.declared.state.CaveState.{CaveState}
use Rattle.auth.specs.declared.types.TerminalKey.{TerminalKey}
use Rattle.auth.specs.declared.types.Renewal.{Renewal}
use Rattle.auth.specs.declared.types.Challenge.{Challenge}

-- R0 to R7 a 64-bit secret, R8 the constant AAV, R9 to R11 three bytes of data, R12 to R15 the ESN; both offsets 128
unfoldable pub loading : ℕ → ℕ → List ℕ → ℕ → CaveState
loading w secret xs esn =
    record { registers = bytes 8 secret ++ (0xC7 ∷ part xs 0 3) ++ bytes 4 esn; lfsr = w; offset1 = 128; offset2 = 128 }

-- a, or b where a is zero
abbrev pub if_zero : ℕ → ℕ → ℕ
if_zero a b = if a == 0 then b else a

-- a number of 32 bits XOR both halves of a secret
abbrev pub blended : ℕ → ℕ → ℕ
blended x secret = bit_xor (bit_xor x (secret / 2 ^ 32)) (secret % 2 ^ 32)

-- A-key check: the LFSR is the key's upper half, or the ESN; the data are the key's lowest 24 bits
abbrev pub akey_loading : TerminalKey → CaveState
akey_loading q = loading (if_zero (q.key / 2 ^ 32) q.esn) q.key (bytes 3 q.key) q.esn

-- the lower 32 bits of RANDSSD
abbrev pub lower : Renewal → ℕ
lower q = wide 4 (part q.rand_ssd.0 3 4)

-- SSD: the LFSR is RANDSSD's lower 32 bits blended with the A-key, or alone; the data are RANDSSD's upper 24 bits
abbrev pub ssd_loading : Renewal → CaveState
ssd_loading q = loading (if_zero (blended (lower q) q.key) (lower q)) q.key (part q.rand_ssd.0 0 3) q.esn

-- signature: the LFSR is the challenge blended with the secret, or alone; the data are AUTH_DATA
abbrev pub signature_loading : Challenge → CaveState
signature_loading q = loading (if_zero (blended q.rand q.secret) q.rand) q.secret q.auth_data.0 q.esn
