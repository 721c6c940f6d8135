-- Options without a value.
use Rattle.std.specs.Prelude.{ℕ, List, Option, Some, None, codes, if◌then◌else◌}
use Rattle.std.specs.Str.{bytes_eq}
use Rattle.mutt_words.specs.declared.switch.Switch.{Switch}
use Rattle.mutt_words.specs.declared.switch.Switch.TheVariants.{NoSystemFile, ReadOnly, SkipEmpty}
use Rattle.mutt_words.specs.declared.switch.Switch.TheVariants.{Version}

-- the switch that a word is
abbrev pub switch_of : List ℕ → Option Switch
switch_of word =
    if bytes_eq word (codes "-n") then Some NoSystemFile
    else (if bytes_eq word (codes "-R") then Some ReadOnly
    else (if bytes_eq word (codes "-z") then Some SkipEmpty
    else (if bytes_eq word (codes "-v") then Some Version else None)))
