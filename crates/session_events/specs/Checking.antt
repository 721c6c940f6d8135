-- What a visit of an open folder comes to.
use Rattle.std.specs.Prelude.{◌≡◌, ◌<◌, ℕ, Bool, true, List, Option, length}
use Rattle.std.specs.List.{All}
use Rattle.mail_base.specs.declared.kind.Kind.{Kind}
use Rattle.disk_model.specs.Journal.{Past}
use Rattle.disk_model.specs.Seen.{Seen}
use Rattle.folder_core.specs.Keeping.{ids_differ}
use Rattle.folder_core.specs.Known.{KnownFolder}
use Rattle.folder_core.specs.Right.{Right}
use Rattle.folder_letters.specs.Letters.{Mail}
use Rattle.folder_letters.specs.declared.letter.Letter.{Letter}
use Rattle.session_events.specs.Happened.{Counts, IsKnownOf, Standing, counts_of}
use Rattle.session_events.specs.Telling.{IsMarked}
use Rattle.session_events.specs.Visits.{Visits}
use Rattle.session_events.specs.declared.checking.Scanned.{Scanned}
use Rattle.session_events.specs.declared.event.Marks.{Marks}
use Rattle.session_events.specs.declared.open_folder.OpenFolder.{OpenFolder}

-- the counts with which marks begin
abbrev pub counts_before : Marks → Counts
counts_before marks = record { mark = marks.mark_before; faults = marks.faults_before }

-- the counts with which they end
abbrev pub counts_behind : Marks → Counts
counts_behind marks = record { mark = marks.mark_after; faults = marks.faults_after }

-- A known folder was visited for an owner of its lock, and these are the marks around that.
pub record VisitsFolder (owner : List ℕ) (archive new_archive : List Letter)
    (known new_known : KnownFolder) (scanned : Scanned) (old new : Seen) : Type 0 where
  pub visits : Visits known.kind owner archive new_archive known new_known scanned.answer old new
  pub before : counts_of old ≡ counts_before scanned.marks
  pub behind : counts_of new ≡ counts_behind scanned.marks
  pub first : IsMarked old
  pub last : IsMarked new

-- The open folder over letters: what is known of it is right, and is its listing, or a part of it
-- where some was forgotten; its listing has letters, each once.
pub record IsOpen (mails : List Mail) (told : Option Past) (folder : OpenFolder) : Type 0 where
  pub right : Right folder.known.kind mails folder.known told
  pub known : IsKnownOf folder.forgot folder.listing.items folder.known.listing
  pub within : All (λ l. l.id.0 < length mails) folder.listing.items
  pub once : ids_differ folder.listing.items ≡ true
  pub met : folder.met ≡ length mails

-- what a run stands on whose open folder this is, where an empty file is of this kind, where our
-- locks bear this word, and where the files of discarded messages are removed or not
abbrev pub standing_over : Kind → List ℕ → Bool → OpenFolder → Standing
standing_over empty owner purges folder = record {
  empty = empty;
  owner = owner;
  path = folder.known.path;
  kind = folder.known.kind;
  listing = folder.listing.items;
  met = folder.met;
  forgot = folder.forgot;
  purges = purges;
}
