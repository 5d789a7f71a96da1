-- The answer to each calculation, by the definitions of the library.
use Rattle.std.specs.Prelude.{ℕ, true, List, length, Ok, Err, Result}
use Rattle.cave.specs.Bytes.{bytes}
use Rattle.cave.specs.Lfsr.{cycled}
use Rattle.auth.specs.Uses.{akey_check_of, new_ssd_of, signature_of}
use Rattle.auth.specs.Keys.{cmea_key_of, call_keys_of}
use Rattle.cmea.specs.Ciphering.{answer_to, ciphered}
use Rattle.oryx.specs.Steps.{step_k}
use Rattle.oryx.specs.Frames.{call_of, mask}
use Rattle.refusal.specs.declared.Refusal.{Refusal}
use Rattle.calculations.specs.declared.Calculation.{Calculation}
use Rattle.calculations.specs.declared.Calculation.TheVariants as asked
use Rattle.calculations.specs.declared.Answer.{Answer}
use Rattle.calculations.specs.declared.Answer.TheVariants as told

-- the answer to ciphering: the body holds it, or it is refused
abbrev pub told_by : Result (Unit {0}) Refusal → Result Answer Refusal
told_by (Ok done) = Ok told.InBody
told_by (Err refusal) = Err refusal

-- the answer to a calculation, given the body
abbrev pub answer_of : Calculation → List ℕ → Result Answer Refusal
answer_of (asked.Lfsr lfsr) body = Ok (told.Word (cycled lfsr))
answer_of (asked.Digits key) body = Ok (told.Key key)
answer_of (asked.Check of) body = Ok (told.EighteenBits (akey_check_of of))
answer_of (asked.NewSsd of) body = Ok (told.Ssd (new_ssd_of of))
answer_of (asked.Sign of) body = Ok (told.EighteenBits (signature_of of).signature)
answer_of (asked.SignLeft of) body = Ok (told.Signed (signature_of of))
answer_of (asked.CmeaKey of) body = Ok (told.CmeaKey (cmea_key_of of))
answer_of (asked.VoiceMask of) body = Ok (told.VoiceMask (call_keys_of of).voice_mask)
answer_of (asked.Cmea key) body = told_by (answer_to body)
answer_of (asked.KStep k) body = Ok (told.Word (step_k k))
answer_of (asked.DataKey of) body = Ok (told.Call (call_of of.ssd_b of.rand))
answer_of (asked.Mask of) body = Ok told.InBody
answer_of asked.SelfTest body = Ok (told.Passed true)

-- the body after a calculation: a message is ciphered, a mask fills it, and no other calculation touches it
abbrev pub body_after : Calculation → List ℕ → List ℕ
body_after (asked.Lfsr lfsr) body = body
body_after (asked.Digits key) body = body
body_after (asked.Check of) body = body
body_after (asked.NewSsd of) body = body
body_after (asked.Sign of) body = body
body_after (asked.SignLeft of) body = body
body_after (asked.CmeaKey of) body = body
body_after (asked.VoiceMask of) body = body
body_after (asked.Cmea key) body = ciphered (bytes 8 key) body
body_after (asked.KStep k) body = body
body_after (asked.DataKey of) body = body
body_after (asked.Mask of) body = mask (call_of of.call.ssd_b of.call.rand) of.hook (length body)
body_after asked.SelfTest body = body
