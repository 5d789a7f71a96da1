-- A clear head over a kind.
use Rattle.std.specs.Prelude.{ℕ, ◌+◌, ◌-◌, ◌^◌, min, if◌then◌else◌, ◌++◌, take, drop}
use Rattle.cipher.specs.declared.fault.CipherFault.{CipherFault}
use Rattle.cipher.specs.declared.fault.CipherFault.TheVariants.{NotKeyed, WrongLength}
use Rattle.cipher.specs.Kind.{Kind, Seen, within, here}

-- one layer more, counted as far as 32 bits go
abbrev pub one_more : ℕ → ℕ
one_more layers = min (layers + 1) (2 ^ 32 - 1)

-- a length that was seen below one layer more
abbrev pub below : Seen → Seen
below s = record { bytes = s.bytes; layers = one_more s.layers }

-- a head of h bytes over a kind: these bytes stay, and the kind below has the rest; a length that leaves no rest from 0 to 64 bytes
-- is seen here, and any other below
abbrev pub headed : ℕ → Kind → Kind
headed h k =
    record {
      least = min (h + k.least) 65;
      image = λ o hook xs. take h xs ++ k.image o hook (drop h xs);
      tells = λ n. if within h n then below (k.tells (n - h)) else here n;
    }

-- a fault from below with one layer more above it
abbrev pub raised : CipherFault → CipherFault
raised NotKeyed = NotKeyed
raised (WrongLength length layers) = WrongLength length (one_more layers)
