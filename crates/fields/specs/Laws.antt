-- An empty text is no field.
use Rattle.std.specs.Prelude.{◌≡◌, ℕ, suc, [], None}
use Rattle.std.proofs.Common.{refl, arith}
use Rattle.std.proofs.lemmas.Bool.Decides.{nat_tests}
use Rattle.hex_field.specs.Hex.{is_field}
use Rattle.fields.specs.Fields.{number_read, auth_data_read, rand_ssd_read}

-- as a number of any width
pub no_number : (n : ℕ) → number_read [] (suc n) ≡ None
unfolding is_field
no_number n = grind (arith, nat_tests)

-- as AUTH_DATA
pub no_auth_data : auth_data_read [] ≡ None
unfolding is_field
no_auth_data = refl

-- as RANDSSD
pub no_rand_ssd : rand_ssd_read [] ≡ None
unfolding is_field
no_rand_ssd = refl
