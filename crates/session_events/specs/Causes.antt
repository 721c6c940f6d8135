-- Why a folder was not read or not written, as it is told.
use Rattle.std.specs.Prelude.{ℕ, List, ◌++◌, Option, Some, None, codes}
use Rattle.std.specs.Fmt.{decimal}
use Rattle.mail_base.specs.Fronts.{◌>>=◌, behind, behind_text}
use Rattle.mail_base.specs.Shown.{utf8_text}
use Rattle.folder_changes.specs.declared.sync_error.Spot.{Spot}
use Rattle.folder_changes.specs.declared.sync_error.Spot.TheVariants.{At, Name}
use Rattle.folder_changes.specs.declared.sync_error.SyncError.{SyncError}
use Rattle.folder_changes.specs.declared.sync_error.SyncError.TheVariants as sync
use Rattle.folder_core.specs.declared.error.ScanError.{ScanError}
use Rattle.folder_core.specs.declared.error.ScanError.TheVariants.{Missing, NotMailbox, TooMany}
use Rattle.folder_core.specs.declared.error.ScanError.TheVariants.{TooLarge, Unfinished}
use Rattle.folder_core.specs.declared.error.ScanError.TheVariants.{ArchiveFull, Fault, NoMemory}

-- a text with a number in parentheses
abbrev pub numbered : List ℕ → ℕ → List ℕ
numbered text n = text ++ decimal n ++ codes ")"

-- why a folder was not read
abbrev pub scan_cause : ScanError → List ℕ
scan_cause Missing = codes "missing"
scan_cause (NotMailbox n) = numbered (codes "not a mailbox (") n
scan_cause (TooMany n) = numbered (codes "too many messages (") n
scan_cause (TooLarge n) = numbered (codes "too large (") n
scan_cause Unfinished = codes "unfinished"
scan_cause ArchiveFull = codes "archive full"
scan_cause Fault = codes "disk fault"
scan_cause NoMemory = codes "no memory"

-- what is told of a check that was refused
abbrev pub check_refusal : ScanError → List ℕ
check_refusal why = codes "Check failed: " ++ scan_cause why

-- what follows a front, or the whole name where there is no such front
abbrev pub or_whole : Option (List ℕ) → List ℕ → List ℕ
or_whole None name = name
or_whole (Some rest) name = rest

-- the path below a folder, and any other path whole
abbrev pub path_below : List ℕ → List ℕ → List ℕ
path_below folder name = or_whole (behind_text folder name >>= behind 47) name

-- what is not as it is known, in a folder at a path
abbrev pub spot_told : List ℕ → Spot → List ℕ
spot_told folder (Name name) = codes "Mailbox changed: " ++ utf8_text (path_below folder name.items)
spot_told folder (At place) = codes "Mailbox changed at " ++ decimal place

-- what is told of a sync of a folder at a path that was refused
abbrev pub sync_refusal : List ℕ → SyncError → List ℕ
sync_refusal folder sync.Locked = codes "Mailbox is locked."
sync_refusal folder sync.Unfinished = codes "Mailbox is unfinished."
sync_refusal folder (sync.Changed spot) = spot_told folder spot
sync_refusal folder (sync.TooMany count) = codes "Mailbox is too full."
sync_refusal folder (sync.TooLarge length) = codes "Mailbox is too full."
sync_refusal folder sync.Fault = codes "Disk fault."
sync_refusal folder sync.NoMemory = codes "No memory."
sync_refusal folder sync.NotFolder = codes "Not a mailbox."
