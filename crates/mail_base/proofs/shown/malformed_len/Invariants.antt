use Rattle.std.proofs.Common.{◌≡◌, ◌≤◌, ◌<◌, ◌++◌, ◌+◌, ◌-◌, None, length, drop, min, replicate}
use Rattle.bstr.specs.Utf8.{decoded}
use Rattle.mail_base.specs.Shown.{utf8_text}
use Rattle.mail_base.proofs.shown.malformed_len.Given as goal

abbrev pub invariant-loop-more : goal.invariant-loop-more
invariant-loop-more l = record {
  within : l.len ≤ length l.bytes;
  text : utf8_text l.bytes ≡ replicate l.len 63 ++ utf8_text (drop l.len l.bytes);
  some : 0 < length l.bytes → (decoded l.bytes).char ≡ None → 0 < l.len;
}

abbrev pub decreases-loop-more : goal.decreases-loop-more
decreases-loop-more l = length l.bytes - l.len + min 1 l.more
