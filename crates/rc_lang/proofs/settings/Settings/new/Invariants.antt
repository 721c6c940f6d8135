use Rattle.std.proofs.Common.{◌≡◌, map, take, vec_len}
use Rattle.rc_lang.specs.Settings.{defaults}
use Rattle.rc_lang.specs.Values.{plain_value}
use Rattle.rc_lang.proofs.settings.Settings.new.Given as goal

abbrev pub invariant-loop-place : goal.invariant-loop-place
invariant-loop-place l = record {
  counted : vec_len l.values ≡ l.place;
  made : map plain_value l.values.items ≡ take l.place defaults;
}
