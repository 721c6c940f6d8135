-- The keys of letters, and what is told of a message by its key.
use Rattle.std.proofs.Common.{Bool, ◌≡◌, ◌<◌, ℕ, zero, suc, List, [], ◌∷◌, Option, Ok, map}
use Rattle.std.proofs.Common.{refl, ap, subst, arith, length}
use Rattle.std.specs.Prelude.{slice_index_or}
use Rattle.disk_model.specs.Journal.{Past}
use Rattle.index_items.specs.Changes.{plain_change}
use Rattle.folder_letters.specs.Letters.{plain_letter}
use Rattle.folder_letters.specs.declared.change.Change.{Change}
use Rattle.folder_letters.specs.declared.change.Change.TheVariants.{Alter, Discard}
use Rattle.folder_letters.specs.declared.letter.Letter.{Letter}
use Rattle.mail_base.specs.declared.flags.Delta.{Delta}
use Rattle.folder_core.specs.Directory.{path_in}
use Rattle.folder_core.specs.Keeping.{mail_of}
use Rattle.folder_changes.specs.declared.sync_error.SyncError.{SyncError}
use Rattle.folder_changes.specs.Serving.{IsErrorAt}
use Rattle.mh_syncs.specs.Parts.{TakesOne, WentAway, gone_at}
use Rattle.mh_syncs.specs.Stamps.{Bears}
use Rattle.mh_syncs.proofs.Leaving.{altered_went, discarded_went}

-- the key of a letter
pub letter_key : (archive : List Letter) (i : ℕ) (d : Letter) → i < length archive
    → (slice_index_or archive i d).key.items ≡ (mail_of (map plain_letter archive) i).key
letter_key [] i d within = absurd (omega (arith, within))
letter_key (letter ∷ archive) zero d within = refl
letter_key (letter ∷ archive) (suc i) d within = letter_key archive i d (omega (arith, within))

pub bears_as : (stamp other : Option ℕ) (at to : List ℕ) (old new : Option Past)
    → stamp ≡ other → at ≡ to → Bears stamp at old new → Bears other to old new
bears_as stamp other at to old new same is bears =
    subst (λ (s : Option ℕ). Bears s to old new) same
    (subst (λ (p : List ℕ). Bears stamp p old new) is bears)

pub alter_went : (purge : Bool) (path key : List ℕ) (change : Change) (delta : Delta)
    (told : Option Past) → change ≡ Alter delta
    → WentAway purge path (gone_at key (plain_change change)) (Ok tt) told told
alter_went purge path key change delta told is =
    altered_went purge path key (plain_change change) delta.added delta.cleared told
    (ap plain_change is)

pub discard_went : (purge : Bool) (path key other : List ℕ) (change : Change)
    (old new : Option Past) → change ≡ Discard → key ≡ other
    → TakesOne purge path key (Ok tt) old new
    → WentAway purge path (gone_at other (plain_change change)) (Ok tt) old new
discard_went purge path key other change old new is same takes =
    subst (λ (k : List ℕ). WentAway purge path (gone_at k (plain_change change)) (Ok tt) old new)
    same
    (discarded_went purge path key (plain_change change) old new (ap plain_change is) takes)

-- The same of a path by another name.

pub error_as : (key : List ℕ) (why : SyncError) (at path : List ℕ) → at ≡ path
    → IsErrorAt (path_in at key) why → IsErrorAt (path_in path key) why
error_as key why at path is error =
    subst (λ (p : List ℕ). IsErrorAt (path_in p key) why) is error
