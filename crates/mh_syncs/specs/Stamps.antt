-- The stamps of messages that change.
use Rattle.std.specs.Prelude.{◌==◌, ◌&&◌, ◌≡◌, [], ◌∷◌, ℕ, Bool, true, false, not, List, Option}
use Rattle.std.specs.Prelude.{Some, None}
use Rattle.disk_model.specs.Journal.{Past}
use Rattle.disk_model.specs.declared.answers.Stat.{Stat}
use Rattle.index_items.specs.Changes.{Changed}
use Rattle.folder_letters.specs.Letters.{Mail}
use Rattle.folder_core.specs.Directory.{path_in}
use Rattle.folder_core.specs.Keeping.{mail_of}
use Rattle.folder_core.specs.Known.{KnownFolder}
use Rattle.folder_drivers.specs.MhLeft.{bears_at, stamp_known}
use Rattle.mh_syncs.specs.Met.{Met}

-- what was found is a file with this stamp
abbrev pub bears_found : Option ℕ → Option Stat → Bool
bears_found None found = false
bears_found (Some stamp) None = false
bears_found (Some stamp) (Some stat) = not stat.folder && stat.stamp == stamp

-- a file with this stamp stood at a path in the call
abbrev pub Bears : Option ℕ → List ℕ → Option Past → Option Past → Type 0
Bears stamp at old new = Met (λ tree. bears_at stamp at tree ≡ true) old new

-- the file of each message that changes had its stamp in the call
abbrev pub AllBear : KnownFolder → List Mail → List Changed → Option Past → Option Past → Type 0
AllBear known mails [] old new = Unit {0}
AllBear known mails (changed ∷ changes) old new =
    Bears (stamp_known known.listing known.stamps changed.id.0)
    (path_in known.path (mail_of mails changed.id.0).key) old new
    × AllBear known mails changes old new
