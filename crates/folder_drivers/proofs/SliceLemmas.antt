-- Changes that are lent as a slice.
use Rattle.std.proofs.Common.{◌≡◌, ℕ, Bool, List, Result, subst}
use Rattle.mail_base.specs.declared.kind.Kind.{Kind}
use Rattle.disk_model.specs.Seen.{Seen}
use Rattle.index_items.specs.Changes.{plain_changes}
use Rattle.folder_letters.specs.Letters.{Mail}
use Rattle.folder_letters.specs.declared.change.Changed1.{Changed1}
use Rattle.folder_core.specs.Known.{KnownFolder}
use Rattle.folder_changes.specs.declared.sync_error.SyncError.{SyncError}
use Rattle.folder_drivers.specs.Synced.{Syncs}

-- a sync, by the changes as a slice
pub syncs_slice : {owner : List ℕ} {purge : Bool} {mails : List Mail}
    {known new_known : KnownFolder} {result : Result (Unit {0}) SyncError} {old new : Seen}
    (kind : Kind) (slice changes : List Changed1) → slice ≡ changes
    → Syncs kind owner purge mails (plain_changes slice) known new_known result old new
    → Syncs kind owner purge mails (plain_changes changes) known new_known result old new
syncs_slice {owner} {purge} {mails} {known} {new_known} {result} {old} {new} kind slice changes is
    syncs = subst (λ (l : List Changed1). Syncs kind owner purge mails (plain_changes l) known
    new_known result old new) is syncs
