-- The keys of a call are read off whole runs of CAVE.
use Rattle.std.proofs.Common.{◌≡◌, ℕ, zero, suc, ◌+◌, length, refl, add-one, arith}
use Rattle.std.proofs.lemmas.List.FromFn.{get_or-map-range_with_len}
use Rattle.cave.specs.Rounds.{after_rounds}
use Rattle.cave.proofs.Lawful.{run_law, registers_sixteen}
use Rattle.auth.specs.Loading.{loading}
use Rattle.auth.specs.Keys.{iteration, rolled, opening_loading, key_byte, mask_byte, cmea_key_of, voice_mask_of, Iterations, KeysBy, MasksBy}
use Rattle.auth.specs.declared.types.OpeningRecord.{OpeningRecord}

module _ (o : OpeningRecord) where
  rolled_sixteen : (n : ℕ) → length (rolled o.rand (iteration o n)).registers ≡ 16
  unfolding iteration
  rolled_sixteen zero = registers_sixteen 8 (opening_loading o) (omega arith)
  rolled_sixteen (suc n) = registers_sixteen 4 (rolled o.rand (iteration o n)) (omega arith)

  pub next : (n : ℕ) → iteration o (n + 1) ≡ after_rounds 4 (rolled o.rand (iteration o n))
  unfolding iteration
  next n = rw add-one refl

  iterations : Iterations o (iteration o)
  unfolding iteration loading
  iterations = record { first = run_law 8 (opening_loading o) (omega arith) refl; further = λ n. rw (next n) (run_law 4 _ (omega arith) (rolled_sixteen n)) }

  pub keys_by : KeysBy o (cmea_key_of o)
  unfolding cmea_key_of
  keys_by = record { at = iteration o; runs = iterations; bytes = λ k h. get_or-map-range_with_len (key_byte (iteration o)) 0 8 k k 0 h (omega arith) }

  pub masks_by : MasksBy o (voice_mask_of o)
  unfolding voice_mask_of
  masks_by = record { at = iteration o; runs = iterations; bytes = λ k h. get_or-map-range_with_len (mask_byte (iteration o)) 0 65 k k 0 h (omega arith) }
