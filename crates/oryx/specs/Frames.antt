-- The masks of a call's frames.
use Rattle.std.specs.Prelude.{ℕ, ◌+◌, ◌*◌, ◌%◌, ◌^◌, List, map, length, bit_xor, slice_index}
use Rattle.std.specs.List.{range_with_len}
use Rattle.oryx.specs.declared.registers.Registers.{Registers}
use Rattle.oryx.specs.declared.call.OryxCall.{OryxCall}
use Rattle.oryx.specs.Steps.{times, byte, step_k, stepped, key_byte}
use Rattle.oryx.specs.Tables.{data_key_of, call_table}

-- what a call with this SSD_B and this RAND needs
abbrev pub call_of : ℕ → ℕ → OryxCall
call_of ssd_b rand = record { data_key = data_key_of ssd_b; table = call_table rand }

-- the byte n bits up in a HOOK, looked up at its sum with the lowest byte
abbrev pub looked_up : List ℕ → ℕ → ℕ → ℕ
looked_up table n hook = slice_index table ((byte n hook + hook % 256) % 256)

-- the word that a HOOK looks up: all four places go by the lowest byte as it was
abbrev pub word : List ℕ → ℕ → ℕ
word table hook = looked_up table 24 hook * 2 ^ 24 + looked_up table 16 hook * 2 ^ 16 + looked_up table 8 hook * 2 ^ 8 + slice_index table (hook % 256)

-- the registers of a frame before its first key byte: K steps three times from the looked-up word, and each register takes one of
-- the three, XORed with the DataKey
unfoldable pub start : OryxCall → ℕ → Registers
start call hook =
    record {
      k = bit_xor call.data_key (times 3 step_k (word call.table hook));
      a = bit_xor call.data_key (times 1 step_k (word call.table hook));
      b = bit_xor call.data_key (times 2 step_k (word call.table hook));
    }

-- byte i of a frame's mask: the key byte after i + 1 steps
unfoldable pub mask_byte : OryxCall → ℕ → ℕ → ℕ
mask_byte call hook i = key_byte call.table (times (i + 1) stepped (start call hook))

-- the first n bytes of a frame's mask
unfoldable pub mask : OryxCall → ℕ → ℕ → List ℕ
mask call hook n = map (mask_byte call hook) (range_with_len 0 n)

-- byte i of a body with the mask XORed onto it
abbrev pub masked_byte : OryxCall → ℕ → List ℕ → ℕ → ℕ
masked_byte call hook body i = bit_xor (slice_index body i) (mask_byte call hook i)

-- a body with the mask XORed onto it
unfoldable pub masked : OryxCall → ℕ → List ℕ → List ℕ
masked call hook body = map (masked_byte call hook body) (range_with_len 0 (length body))
