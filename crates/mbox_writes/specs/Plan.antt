-- What is to be written of a mailbox in one file, made before anything of it is.
use Rattle.std.specs.Prelude.{◌≡◌, ◌≤◌, ◌++◌, List, ℕ, length, take}
use Rattle.mail_base.specs.declared.kind.Kind.TheVariants.{Mbox}
use Rattle.folder_core.specs.Known.{KnownFolder}
use Rattle.folder_core.specs.Limits.{most_bytes}
use Rattle.folder_changes.specs.Left.{listing_synced}
use Rattle.folder_drivers.specs.MboxFront.{IsAsKnown}
use Rattle.folder_drivers.specs.MboxSync.{changed_file, end_of, start_of}
use Rattle.index_items.specs.Changes.{Changed}
use Rattle.mbox_writes.specs.declared.plan.Plan.{Plan}
use Rattle.mbox_text.specs.declared.rewriting.Rewritten.{Rewritten}

-- The file is the known one, and this is what the changes make of it.
pub record Rewrites (known : KnownFolder) (changes : List Changed) (bytes : List ℕ)
    (rewritten : Rewritten) : Type 0 where
  pub as_known : IsAsKnown known bytes
  pub at : rewritten.at ≡ start_of known changes bytes
  pub tail : rewritten.tail.items ≡ end_of known changes bytes
  pub within : rewritten.at ≤ length bytes
  pub whole : take rewritten.at bytes ++ rewritten.tail.items ≡ changed_file known changes bytes

-- The same, split where the new end begins, with the listing then.
pub record IsPlan (known : KnownFolder) (changes : List Changed) (bytes : List ℕ) (plan : Plan)
    : Type 0 where
  pub as_known : IsAsKnown known bytes
  pub front : plan.front.items ≡ take (start_of known changes bytes) bytes
  pub starts : length plan.front.items ≡ start_of known changes bytes
  pub tail : plan.tail.items ≡ end_of known changes bytes
  pub room : length plan.tail.items ≤ plan.front.room
  pub whole : plan.front.items ++ plan.tail.items ≡ changed_file known changes bytes
  pub small : length (changed_file known changes bytes) ≤ most_bytes
  pub listing : plan.listing.items ≡ listing_synced Mbox changes known.listing
