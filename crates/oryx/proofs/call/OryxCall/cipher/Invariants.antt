use Rattle.std.proofs.Common.{◌≡◌, ℕ, ◌<◌, ◌≤◌, get_or}
use Rattle.oryx.specs.Steps.{times, stepped}
use Rattle.oryx.specs.Frames.{start, masked_byte}
use Rattle.oryx.proofs.call.OryxCall.cipher.Given as goal

-- the stream has stepped once per byte; the bytes in front are masked, and the others are as they were
abbrev pub invariant-loop-byte : goal.invariant-loop-byte
invariant-loop-byte l =
    record {
      table : l.stream.table ≡ l.initial.stream.table;
      registers : l.stream.registers ≡ times l.byte-index stepped (start l.self l.hook);
      front : (k : ℕ) → k < l.byte-index → get_or l.body k 0 ≡ masked_byte l.self l.hook l.initial.body k;
      back : (k : ℕ) → l.byte-index ≤ k → get_or l.body k 0 ≡ get_or l.initial.body k 0;
    }
