-- A mask XORed on twice is gone, and onto zeros it is the mask itself.
use Rattle.std.proofs.Common.{◌≡◌, ℕ, ◌<◌, List, length, get_or, replicate, ap, ◌∙◌, arith}
use Rattle.std.proofs.lemmas.Grind.{common_steps}
use lib.Bits.{bit_xor, xor_assoc, xor_self, xor_zero_r}
use Rattle.std.proofs.lemmas.List.FromFn.{length-map-range_with_len, get_or-map-range_with_len, fill_by_all}
use Rattle.std.proofs.lemmas.List.{ext_get_or, length-replicate}
use Rattle.oryx.specs.declared.call.OryxCall.{OryxCall}
use Rattle.oryx.specs.Frames.{mask_byte, mask, masked_byte, masked}

pub xor_twice : (a b : ℕ) → bit_xor (bit_xor a b) b ≡ a
xor_twice a b = xor_assoc a b b ∙ ap (bit_xor a) (xor_self b) ∙ xor_zero_r a

module _ (call : OryxCall) (hook : ℕ) where
  pub masked_length : (body : List ℕ) → length (masked call hook body) ≡ length body
  unfolding masked
  masked_length body = length-map-range_with_len (masked_byte call hook body) 0 (length body)

  masked_at : (body : List ℕ) (k : ℕ) → k < length body → get_or (masked call hook body) k 0 ≡ masked_byte call hook body k
  unfolding masked
  masked_at body k h = get_or-map-range_with_len (masked_byte call hook body) 0 (length body) k k 0 h (omega arith)

  pub masked_twice : (body : List ℕ) → masked call hook (masked call hook body) ≡ body
  masked_twice body =
      let long = masked_length body in
      let again = masked_length (masked call hook body) in
      ext_get_or 0 _ _ (again ∙ long) (λ k h. grind (arith, common_steps, masked_at, xor_twice))

  pub masked_zeros : (n : ℕ) → masked call hook (replicate n 0) ≡ mask call hook n
  unfolding mask
  masked_zeros n =
      let long = masked_length (replicate n 0) ∙ length-replicate {A = ℕ} n 0 in
      fill_by_all (mask_byte call hook) _ n 0 long (λ k h. grind (arith, common_steps, masked_at (replicate n 0) k))
