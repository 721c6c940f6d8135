use Rattle.std.proofs.Common.{◌≡◌, drop}
use Rattle.drafts.specs.Reading.{behind_bytes}
use Rattle.drafts.proofs.reading.behind_bytes.Given as goal

abbrev pub invariant-loop-byte : goal.invariant-loop-byte
invariant-loop-byte l =
    behind_bytes (drop l.byte-index l.bytes) l.left ≡ behind_bytes l.bytes l.text
