-- The laws of CMEA. The first and the third pass undo each other, and the second undoes itself.
use Rattle.std.proofs.Common.{◌≡◌, ℕ, zero, suc, ◌+◌, ◌-◌, ◌%◌, ◌<◌, ◌≤◌, List, [], ◌∷◌, length, get_or, refl, ap, ◌∙◌, ap₂, arith}
use lib.Bits.{bit_xor, bit_or, xor_assoc, xor_self, xor_zero_r, xor_add_and, or_add_and, and_mask}
use Rattle.std.proofs.lemmas.List.FromFn.{length-map-range_with_len, get_or-map-range_with_len}
use Rattle.std.proofs.lemmas.List.{ext_get_or, get_or_past}
use Rattle.std.proofs.lemmas.Grind.{common_steps}
use Rattle.std.proofs.lemmas.Nat.{xor_of_8, or_of_8}
use Rattle.std.proofs.lemmas.Bool.Decides.{nat_tests}
use Rattle.cmea.specs.Substitution.{tbox}
use Rattle.cmea.specs.Passes.{raised, lowered, folded, first_pass, second_pass, third_pass}
use Rattle.cmea.specs.Ciphering.{image, ciphered, TurnsLowestBit}

-- a message is of bytes; the default past its end is one too
abbrev pub Bytes : List ℕ → Type 0
Bytes xs = (k : ℕ) → get_or xs k 0 < 256

-- a substitution gives bytes
abbrev GivesBytes : (ℕ → ℕ) → Type 0
GivesBytes t = (z : ℕ) → t z < 256

tbox_bytes : (key : List ℕ) → GivesBytes (tbox key)
unfolding tbox
tbox_bytes key z = omega arith

first_length : (t : ℕ → ℕ) (xs : List ℕ) (i z : ℕ) → length (first_pass t i z xs) ≡ length xs
unfolding first_pass
first_length t [] i z = refl
first_length t (x ∷ xs) i z = ap suc (first_length t xs _ _)

third_length : (t : ℕ → ℕ) (xs : List ℕ) (i z : ℕ) → length (third_pass t i z xs) ≡ length xs
unfolding third_pass
third_length t [] i z = refl
third_length t (x ∷ xs) i z = ap suc (third_length t xs _ _)

module _ (t : ℕ → ℕ) (b : GivesBytes t) where
  first_bytes : (xs : List ℕ) (i z : ℕ) → Bytes (first_pass t i z xs)
  unfolding first_pass
  first_bytes [] i z k = omega arith
  first_bytes (x ∷ xs) i z zero = omega arith
  first_bytes (x ∷ xs) i z (suc k) = first_bytes xs _ _ k

  third_first : (xs : List ℕ) (i z : ℕ) → Bytes xs → third_pass t i z (first_pass t i z xs) ≡ xs
  unfolding first_pass third_pass
  third_first [] i z h = refl
  third_first (x ∷ xs) i z h =
      let d = b (bit_xor z (i % 256)) in
      let x_byte : x < 256 = h 0 in
      ap₂ ◌∷◌ (omega arith) (third_first xs _ _ (λ k. h (suc k)))

  first_third : (ys : List ℕ) (i z : ℕ) → Bytes ys → first_pass t i z (third_pass t i z ys) ≡ ys
  unfolding first_pass third_pass
  first_third [] i z h = refl
  first_third (y ∷ ys) i z h =
      let d = b (bit_xor z (i % 256)) in
      let y_byte : y < 256 = h 0 in
      let e : raised t i z (lowered t i z y) ≡ y = omega arith in
      ap₂ ◌∷◌ e (ap (λ (w : ℕ). first_pass t (i + 1) ((z + w) % 256) (third_pass t (i + 1) ((z + y) % 256) ys)) e ∙ first_third ys _ _ (λ k. h (suc k)))

second_length : (xs : List ℕ) → length (second_pass xs) ≡ length xs
unfolding second_pass
second_length xs = length-map-range_with_len (folded xs) 0 (length xs)

second_at : (xs : List ℕ) (k : ℕ) → k < length xs → get_or (second_pass xs) k 0 ≡ folded xs k
unfolding second_pass
second_at xs k h = get_or-map-range_with_len (folded xs) 0 (length xs) k k 0 h (omega arith)

second_bytes : (xs : List ℕ) → Bytes xs → Bytes (second_pass xs)
second_bytes xs h k = grind (arith, common_steps, nat_tests, second_length xs, second_at xs k, h k, h (length xs - 1 - k), xor_of_8, or_of_8, get_or_past (second_pass xs) k 0)

second_twice : (xs : List ℕ) → second_pass (second_pass xs) ≡ xs
second_twice xs =
    let n = second_length xs in
    let nn = second_length (second_pass xs) in
    ext_get_or 0 _ _ (nn ∙ n) (λ k l.
    grind (arith, nat_tests, second_at (second_pass xs) k, second_at xs k, second_at xs (length xs - 1 - k), xor_assoc, xor_self, xor_zero_r))

pub image_length : (key xs : List ℕ) → length (image key xs) ≡ length xs
unfolding image
image_length key xs = third_length _ _ 0 0 ∙ second_length _ ∙ first_length _ xs 0 0

pub image_twice : (key xs : List ℕ) → Bytes xs → image key (image key xs) ≡ xs
unfolding image
image_twice key xs h =
    let t = tbox key in
    let b = tbox_bytes key in
    let m = first_pass t 0 0 xs in
    ap (λ (ys : List ℕ). third_pass t 0 0 (second_pass ys)) (first_third t b (second_pass m) 0 0 (second_bytes m (first_bytes t b xs 0 0)))
    ∙ ap (third_pass t 0 0) (second_twice m)
    ∙ third_first t b xs 0 0 h

-- an odd number turns the lowest bit over
odd_turns : (a c : ℕ) → bit_xor a (bit_or c 1) % 2 ≡ (a + 1) % 2
odd_turns a c = let p = xor_add_and a (bit_or c 1) in let q = or_add_and c 1 in let r = and_mask c 1 in omega arith

first_head : (t : ℕ → ℕ) (xs : List ℕ) → 0 < length xs → get_or (first_pass t 0 0 xs) 0 0 ≡ (get_or xs 0 0 + t 0) % 256
unfolding first_pass
first_head t [] h = absurd (omega arith)
first_head t (x ∷ xs) h = refl

third_head : (t : ℕ → ℕ) (ys : List ℕ) → 0 < length ys → get_or (third_pass t 0 0 ys) 0 0 ≡ (get_or ys 0 0 + (256 - t 0)) % 256
unfolding third_pass
third_head t [] h = absurd (omega arith)
third_head t (y ∷ ys) h = refl

image_turns : (key xs : List ℕ) → 2 ≤ length xs → TurnsLowestBit xs (image key xs)
unfolding image
image_turns key xs h =
    let t = tbox key in
    let m = first_pass t 0 0 xs in
    grind (arith, nat_tests, tbox_bytes key 0, first_length t xs 0 0, second_length m, first_head t xs, second_at m 0, odd_turns (get_or m 0 0) (get_or m (length m - 1 - 0) 0), third_head t (second_pass m))

-- the same of a call, which leaves a message of under two bytes as it was
pub ciphered_length : (key xs : List ℕ) → length (ciphered key xs) ≡ length xs
ciphered_length key xs = grind (arith, nat_tests, image_length key xs)

pub ciphered_twice : (key xs : List ℕ) → Bytes xs → ciphered key (ciphered key xs) ≡ xs
ciphered_twice key xs h = grind (arith, nat_tests, image_length key xs, image_twice key xs h)

pub ciphered_turns : (key xs : List ℕ) → 2 ≤ length xs → TurnsLowestBit xs (ciphered key xs)
ciphered_turns key xs h = grind (arith, nat_tests, image_turns key xs h)
