use Rattle.std.proofs.Common.{◌≡◌, length}
use Rattle.std.specs.Str.{chars}
use denote.Shadow.{shadow}
use denote.Text.{Utf8}
use Rattle.pager.specs.Inner.{put_text}
use Rattle.pager.proofs.breaker.Breaker.put_text.Given as goal

-- the characters that are left, put behind the others, are the whole text
abbrev pub invariant-loop-rest : goal.invariant-loop-rest
invariant-loop-rest l = record {
  text : shadow (Utf8 l.rest);
  put : put_text l.self (chars l.rest) ≡ put_text l.initial.self (chars l.text);
}

abbrev pub decreases-loop-rest : goal.decreases-loop-rest
decreases-loop-rest l = length l.rest
