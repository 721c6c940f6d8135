-- The steps of a sync, and what they do to the messages of a folder.
use Rattle.std.specs.Prelude.{◌≡◌, ℕ, true, List, [], ◌∷◌, Option, Some, None, Result, Ok}
use Rattle.std.specs.Prelude.{OnErr, OnOk, option_map}
use Rattle.std.specs.String.{string_bytes}
use Rattle.mail_base.specs.Flags.{applied, stored}
use Rattle.mail_base.specs.declared.flags.Flags.{Flags}
use Rattle.mail_base.specs.declared.kind.Kind.TheVariants.{Maildir}
use Rattle.disk_model.specs.Journal.{Call, Past, Remove, Rename}
use Rattle.disk_model.specs.Judge.{GoesOn, OneStep, done_by}
use Rattle.index_items.specs.Changes.{Changed, PlainChange, Alters, Discards}
use Rattle.folder_letters.specs.Letters.{Mail}
use Rattle.folder_core.specs.Keeping.{mail_of}
use Rattle.folder_core.specs.Maildir.{MaildirFile, base_of, is_shown, path_of}
use Rattle.folder_changes.specs.Maildir.{DoesWanted, flags_named}
use Rattle.folder_changes.specs.Worked.{nothing_wanted}
use Rattle.folder_changes.specs.declared.sync_error.SyncError.{SyncError}
use Rattle.folder_drivers.specs.MaildirSync.{file_with}
use Rattle.folder_shapes.specs.Maildir.{maildir_making, maildir_shape}
use Rattle.folder_stops.specs.Does.{Does}
use Rattle.folder_stops.specs.Syncs.{Syncs as HoldsOn}
use Rattle.folder_stops.specs.Words.{has}
use Rattle.maildir_folder.specs.declared.steps.Step.{Step}

-- What a step is.

-- the path of a file, and the path to which it goes, where it does not go away
pub record PlainStep : Type 0 where
  pub from : List ℕ
  pub to : Option (List ℕ)

-- a step as contracts see it
abbrev pub plain_step : Step → PlainStep
plain_step step =
    record { from = string_bytes step.from; to = option_map string_bytes step.to }

-- the path of a file with the same base, by the name that tells these flags and its own letters
pub record IsNewPath (path : List ℕ) (file : MaildirFile) (flags : Flags) (to : List ℕ) : Type 0
  where
    pub target : MaildirFile
    pub shown : is_shown target.name ≡ true
    pub base : base_of target ≡ base_of file
    pub tells : flags_named target ≡ flags
    pub named : target ≡ file_with flags file
    pub goes : to ≡ path_of path target

-- where the file of a message goes that is to change so: to another name, or away
abbrev pub GoesTo : List ℕ → MaildirFile → PlainChange → Option (List ℕ) → Type 0
GoesTo path file (Alters added cleared) None = ⊥
GoesTo path file (Alters added cleared) (Some to) =
    IsNewPath path file (stored Maildir (applied (flags_named file) added cleared)) to
GoesTo path file Discards None = Unit {0}
GoesTo path file Discards (Some to) = ⊥

-- a step does with a file what is to become of its message
pub record IsStep (path : List ℕ) (file : MaildirFile) (change : PlainChange) (step : PlainStep)
    : Type 0 where
  pub shown : is_shown file.name ≡ true
  pub from : step.from ≡ path_of path file
  pub to : GoesTo path file change step.to

-- a step of a file with this base
pub record IsStepOf (path base : List ℕ) (change : PlainChange) (step : PlainStep) : Type 0 where
  pub file : MaildirFile
  pub named : base_of file ≡ base
  pub does : IsStep path file change step

-- each change has its step
abbrev pub AreSteps : List ℕ → List Mail → List Changed → List PlainStep → Type 0
AreSteps path mails [] [] = Unit {0}
AreSteps path mails [] (step ∷ steps) = ⊥
AreSteps path mails (changed ∷ changes) [] = ⊥
AreSteps path mails (changed ∷ changes) (step ∷ steps) =
    IsStepOf path (mail_of mails changed.id.0).key changed.change step
    × AreSteps path mails changes steps

-- What a step does.

-- the call by which a file goes to another path, or away
abbrev pub call_by : List ℕ → Option (List ℕ) → Call
call_by from None = Remove from
call_by from (Some to) = Rename from to

-- the call of a step
abbrev pub call_of : PlainStep → Call
call_of step = call_by step.from step.to

-- a call that gives nothing was done
abbrev pub WasDone : Call → Option Past → Option Past → Type 0
WasDone call old new = GoesOn (OneStep {A = Unit {0}} (Ok tt) call (done_by call)) old new

-- nothing was done to the messages
abbrev pub DidNothing : List ℕ → Option Past → Option Past → Type 0
DidNothing path old new = GoesOn (DoesWanted path nothing_wanted) old new

-- The folder holds its messages at each mark, and those with these keys may go; our calls changed
-- the folder alone, and began no message.
pub record KeepsAllBut (path : List ℕ) (keys : List (List ℕ)) (old new : Option Past) : Type 0
  where
    pub holds : HoldsOn (maildir_shape path) [] keys old new
    pub here : Does (maildir_shape path).home (maildir_making path) None old new

-- Nothing was done to the messages, and the folder holds them at each mark, whichever may go.
pub record LeavesAll (path : List ℕ) (old new : Option Past) : Type 0 where
  pub does : DidNothing path old new
  pub holds : (keys : List (List ℕ)) → KeepsAllBut path keys old new

-- where messages with these keys may go, the message with a key may change so
abbrev pub MayChange : List (List ℕ) → List ℕ → PlainChange → Type 0
MayChange keys key (Alters added cleared) = Unit {0}
MayChange keys key Discards = has keys key ≡ true

-- A step was taken where the answer is Ok, and else nothing was done to the messages; each time the
-- folder holds them, but for the step's own where it is discarded.
pub record TakesStep (result : Result (Unit {0}) SyncError) (step : PlainStep)
    (old new : Option Past) : Type 0 where
  pub done : OnOk result (WasDone (call_of step) old new)
  pub refused : OnErr result ((path : List ℕ) → DidNothing path old new)
  pub holds : (path base : List ℕ) (change : PlainChange) (keys : List (List ℕ))
      → IsStepOf path base change step → MayChange keys base change
      → KeepsAllBut path keys old new
