-- Different HOOKs look up different words, and K steps from different words to different ones, but for zero and its stand-in.
use Rattle.std.proofs.Common.{◌≡◌, ℕ, ◌+◌, ◌*◌, ◌/◌, ◌%◌, ◌^◌, ◌<◌, List, get_or, sym, ap, ◌∙◌, arith}
use Rattle.std.proofs.lemmas.Grind.{common_steps}
use lib.Bits.{bit_xor, xor_comm, xor_shr}
use Rattle.std.proofs.lemmas.Bool.Decides.{nat_tests}
use Rattle.oryx.specs.declared.call.OryxCall.{OryxCall}
use Rattle.oryx.specs.Steps.{times, byte, right_step, non_zero, step_k}
use Rattle.oryx.specs.Frames.{looked_up, word, start, call_of}
use Rattle.oryx.specs.Laws.{EachOnce, ZeroAndItsStandIn, StartsApart}
use Rattle.oryx.proofs.Masks.{xor_twice}
use Rattle.oryx.proofs.Once.{table_each_once, table_bytes, alone}

xor_cancel : (c a b : ℕ) → bit_xor a c ≡ bit_xor b c → a ≡ b
xor_cancel c a b e = sym (xor_twice a c) ∙ ap (λ (x : ℕ). bit_xor x c) e ∙ xor_twice b c

-- the top bit after a step to the right is the bit that left
top_bit : (w : ℕ) → w < 2 ^ 32 → right_step 0xC672B008 w / 2 ^ 31 ≡ w % 2
top_bit w h = grind (arith, common_steps, xor_shr (w / 2) (w % 2 * 0xC672B008) 31)

right_apart : (v w : ℕ) → v < 2 ^ 32 → w < 2 ^ 32 → right_step 0xC672B008 v ≡ right_step 0xC672B008 w → v ≡ w
right_apart v w hv hw e =
    let low : v % 2 ≡ w % 2 = sym (top_bit v hv) ∙ ap (λ (x : ℕ). x / 2 ^ 31) e ∙ top_bit w hw in
    let rest : v / 2 ≡ w / 2 = xor_cancel (w % 2 * 0xC672B008) (v / 2) (w / 2) (ap (λ (x : ℕ). bit_xor (v / 2) (x * 0xC672B008)) (sym low) ∙ e) in
    omega arith

non_zero_below : (w : ℕ) → w < 2 ^ 32 → non_zero w < 2 ^ 32
non_zero_below w h = grind (arith, nat_tests)

non_zero_apart : (v w : ℕ) → (ZeroAndItsStandIn v w → ⊥) → non_zero v ≡ non_zero w → v ≡ w
non_zero_apart v w n e = grind (arith, nat_tests)

step_k_apart : (v w : ℕ) → v < 2 ^ 32 → w < 2 ^ 32 → (ZeroAndItsStandIn v w → ⊥) → step_k v ≡ step_k w → v ≡ w
step_k_apart v w hv hw n e = non_zero_apart v w n (right_apart (non_zero v) (non_zero w) (non_zero_below v hv) (non_zero_below w hw) e)

same_bytes : (h h' : ℕ) → h < 2 ^ 32 → h' < 2 ^ 32 → byte 24 h ≡ byte 24 h' → byte 16 h ≡ byte 16 h' → byte 8 h ≡ byte 8 h' → h % 256 ≡ h' % 256 → h ≡ h'
same_bytes h h' b b' e3 e2 e1 e0 = omega arith

sum_apart : (x y c d : ℕ) → x < 256 → y < 256 → c ≡ d → (x + c) % 256 ≡ (y + d) % 256 → x ≡ y
sum_apart x y c d hx hy e s = omega arith

module _ (table : List ℕ) (each : EachOnce table) (bytes : (i : ℕ) → i < 256 → get_or table i 0 < 256) where
  word_below : (h : ℕ) → word table h < 2 ^ 32
  word_below h = grind (arith, bytes)

  one_place : (i j : ℕ) → get_or table (i % 256) 0 ≡ get_or table (j % 256) 0 → i % 256 ≡ j % 256
  one_place i j e = alone table each (i % 256) (j % 256) (omega arith) (omega arith) (bytes _ (omega arith)) e

  word_apart : (h h' : ℕ) → h < 2 ^ 32 → h' < 2 ^ 32 → word table h ≡ word table h' → h ≡ h'
  word_apart h h' b b' e =
      let low : h % 256 ≡ h' % 256 = one_place h h' (grind (arith, bytes)) in
      let part : (n : ℕ) → looked_up table n h ≡ looked_up table n h' → byte n h ≡ byte n h' = λ n q.
      sum_apart (byte n h) (byte n h') (h % 256) (h' % 256) (omega arith) (omega arith) low (one_place (byte n h + h % 256) (byte n h' + h' % 256) q) in
      same_bytes h h' b b' (part 24 (grind (arith, bytes))) (part 16 (grind (arith, bytes))) (part 8 (grind (arith, bytes))) low

step_k_alike : (v w : ℕ) → ZeroAndItsStandIn v w → step_k v ≡ step_k w
step_k_alike v w p = grind (arith, nat_tests)

pub starts_apart : (ssd_b rand : ℕ) → StartsApart (call_of ssd_b rand)
unfolding start times
starts_apart ssd_b rand =
    let call : OryxCall = call_of ssd_b rand in
    let table : List ℕ = call.table in
    let d : ℕ = call.data_key in
    let each = table_each_once rand in
    let bytes = table_bytes rand in
    record {
      apart = λ h h' b b' n m e. n (word_apart table each bytes h h' b b' (step_k_apart (word table h) (word table h') (word_below table each bytes h) (word_below table each bytes h') m
          (xor_cancel d _ _ (xor_comm (step_k (word table h)) d ∙ e ∙ xor_comm d (step_k (word table h'))))));
      alike = λ h h' m. ap (bit_xor d) (step_k_alike (word table h) (word table h') m);
    }
