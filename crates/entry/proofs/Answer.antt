-- The answer to an entry: how it comes about, and that it says what the law of answers says.
use Rattle.std.specs.Prelude.{◌-◌, ◌||◌, if◌then◌else◌, ◌==◌, nat_lt}
use Rattle.std.proofs.Common.{◌≡◌, ℕ, ◌≤◌, List, length, take, Some, None, Ok, Err, Option, Result, refl, arith}
use Rattle.std.proofs.lemmas.List.{length-take-le}
use Rattle.std.proofs.lemmas.Bool.{eqb-true, eqb-false, cond_both}
use Rattle.std.proofs.lemmas.Bool.Decides.{nat_tests}
use Rattle.auth.specs.Uses.{akey_check_of}
use Rattle.refusal.specs.declared.Refusal.{Refusal}
use Rattle.refusal.specs.declared.Refusal.TheVariants.{CheckDiffers}
use Rattle.entry.specs.Digits.{first_bad, decimal}
use Rattle.entry.specs.Entry.{unless_bad, digits_read, key_of, check_of, right_check, entry_read, Says}
use Rattle.entry.proofs.Scan.{Told, told, last, drop_last}

went_on : (o : Option ℕ) (key n : ℕ) → Ok key ≡ unless_bad o (Ok n) → (o ≡ None) × (n ≡ key)
went_on (Some i) key n q = absurd (cc)
went_on None key n q = grind arith

module _ (esn : ℕ) (bs : List ℕ) where
  -- the answer to an entry of digits alone, by the key that was read, the check that was typed and the right one
  pub outcome : (key check right : ℕ) → 6 ≤ length bs → length bs ≤ 26 → Ok key ≡ digits_read bs (length (take (length bs - 6) bs)) → check ≡ decimal (last bs 6) → right ≡ akey_check_of (record { esn = esn; key = key }) → entry_read esn bs ≡ (if check == right then Ok key else Err CheckDiffers)
  outcome key check right least most read typed ours =
      let w = went_on (first_bad bs 0) key _ read in
      grind (arith, nat_tests, length-take-le (length bs - 6) bs, drop_last bs 6)

  abbrev checked : Result ℕ Refusal
  checked = if check_of bs == right_check esn bs then Ok (key_of bs) else Err CheckDiffers

  scanned_says : 6 ≤ length bs → length bs ≤ 26 → (o : Option ℕ) → Told bs o → Says esn bs (unless_bad o checked)
  scanned_says least most (Some i) t = (least, most, t.0, t.1, t.2)
  scanned_says least most None t = cond_both (check_of bs == right_check esn bs) _ _ (Says esn bs) (λ q. (least, most, t, refl, eqb-true _ _ q)) (λ q. (least, most, t, eqb-false _ _ q))

  pub answered : (r : Result ℕ Refusal) → r ≡ entry_read esn bs → Says esn bs r
  answered r e =
      rw e
      (cond_both (nat_lt (length bs) 6 || nat_lt 26 (length bs)) _ _ (Says esn bs)
      (λ t. (refl, grind (arith, nat_tests)))
      (λ f. scanned_says (grind (arith, nat_tests)) (grind (arith, nat_tests)) (first_bad bs 0) (told bs)))
