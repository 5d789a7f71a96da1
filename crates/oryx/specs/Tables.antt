-- What is made once per call: the DataKey from SSD_B, and the table from RAND.
use Rattle.std.specs.Prelude.{ℕ, zero, suc, ◌+◌, ◌*◌, ◌/◌, ◌%◌, ◌^◌, List, map, bit_and, bit_xor}
use Rattle.std.specs.List.{range_with_len, swap}
use Rattle.oryx.specs.declared.registers.Registers.{Registers}
use Rattle.oryx.specs.Steps.{times, high, step_k, stepped, key_byte}

-- the numbers 0 to 255 after n exchanges: after step i of K, from k on, entry i and the entry at the leftmost byte of K change places
unfoldable pub exchanges : ℕ → ℕ → List ℕ
exchanges zero k = range_with_len 0 256
exchanges (suc n) k = swap (exchanges n k) n (high (times (suc n) step_k k))

-- the table of a call
abbrev pub call_table : ℕ → List ℕ
call_table rand = exchanges 256 rand

-- the table of the hash that makes the DataKey: the leftmost byte of K after each of 256 steps from k on
unfoldable pub hash_table : ℕ → List ℕ
hash_table k = map (λ i. high (times (i + 1) step_k k)) (range_with_len 0 256)

-- a key byte enters a word from the right: the word moves left by 9 places
abbrev pub shift_in : ℕ → ℕ → ℕ
shift_in w byte = (w * 2 ^ 9 + byte) % 2 ^ 32

-- a key byte takes the place of the second byte of K, and is ANDed into the third
abbrev pub mix_in : ℕ → ℕ → ℕ
mix_in k byte = bit_and (bit_and k 0xFF00FFFF + byte * 2 ^ 16) (0xFFFF00FF + byte * 2 ^ 8)

-- the key byte of the registers into A, into B and into K
abbrev pub into_a : List ℕ → Registers → Registers
into_a table s = record s { a = shift_in s.a (key_byte table s) }

abbrev pub into_b : List ℕ → Registers → Registers
into_b table s = record s { b = shift_in s.b (key_byte table s) }

abbrev pub into_k : List ℕ → Registers → Registers
into_k table s = record s { k = mix_in s.k (key_byte table s) }

-- one round of the hash: three key bytes, one into each register
unfoldable pub hash_round : List ℕ → Registers → Registers
hash_round table s = into_k table (stepped (into_b table (stepped (into_a table (stepped s)))))

-- the registers before the first round: A and B are the halves of SSD_B, and K is their XOR after the 256 steps that made the table
unfoldable pub hash_start : ℕ → ℕ → Registers
hash_start a b = record { k = times 256 step_k (bit_xor a b); a = a; b = b }

-- the three registers XORed
abbrev pub joined : Registers → ℕ
joined s = bit_xor (bit_xor s.a s.b) s.k

-- the DataKey of the two halves of SSD_B: 32 rounds of the hash
unfoldable pub hash : ℕ → ℕ → ℕ
hash a b = joined (times 32 (hash_round (hash_table (bit_xor a b))) (hash_start a b))

-- the DataKey of SSD_B
abbrev pub data_key_of : ℕ → ℕ
data_key_of ssd_b = hash (ssd_b / 2 ^ 32) (ssd_b % 2 ^ 32)
