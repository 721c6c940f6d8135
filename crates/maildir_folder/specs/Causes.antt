-- By which calls a part of a sync goes on, and why it is refused.
use Rattle.std.specs.Prelude.{◌≡◌, ℕ, List, false}
use Rattle.mail_base.specs.Ordered.{IsIn}
use Rattle.mail_base.specs.declared.kind.Id.{Id}
use Rattle.disk_model.specs.Journal.{Call, MakeDir, Past}
use Rattle.index_items.specs.Changes.{PlainChange}
use Rattle.folder_letters.specs.Letters.{Mail}
use Rattle.folder_core.specs.Keeping.{mail_of}
use Rattle.folder_core.specs.Maildir.{directory}
use Rattle.folder_core.specs.declared.error.ScanError.{ScanError}
use Rattle.folder_core.specs.declared.error.ScanError.TheVariants as scan
use Rattle.disk_model.specs.declared.answers.DiskError.{DiskError}
use Rattle.disk_model.specs.declared.answers.DiskError.TheVariants as disk
use Rattle.folder_changes.specs.Refused.{IsOfTree, OnChanged, StepRefused}
use Rattle.folder_changes.specs.Serving.{IsErrorAt}
use Rattle.folder_changes.specs.Worked.{WasCause}
use Rattle.folder_changes.specs.declared.sync_error.SyncError.{SyncError}
use Rattle.folder_drivers.specs.MaildirSync.{is_no_maildir}
use Rattle.maildir_folder.specs.Steps.{IsStepOf, PlainStep, call_of}

-- Calls.

-- the call that makes the directory `new`
abbrev pub IsMakeNew : List ℕ → Call → Type 0
IsMakeNew path call = call ≡ MakeDir (directory false path)

-- the call of a step
abbrev pub IsCallOf : PlainStep → Call → Type 0
IsCallOf step call = call ≡ call_of step

-- the call of a step of some message
pub record IsStepCall (path : List ℕ) (call : Call) : Type 0 where
  pub base : List ℕ
  pub change : PlainChange
  pub step : PlainStep
  pub is : IsStepOf path base change step
  pub by : call ≡ call_of step

-- Causes.

-- no Maildir stood at the path
abbrev pub FolderCause : List ℕ → SyncError → ℕ → ℕ → Past → Type 0
FolderCause path why m n past = OnChanged why (WasCause (is_no_maildir path) m n past)

-- a call was refused
abbrev pub CallCause : (Call → Type 0) → SyncError → ℕ → ℕ → Past → Type 0
CallCause Needs why m n past = OnChanged why (StepRefused Needs m n past)

-- the step of one of these messages was refused, which names the path of its file
pub record IsStepRefused (path : List ℕ) (mails : List Mail) (ids : List Id) (why : SyncError)
    (m n : ℕ) (past : Past) : Type 0 where
  pub id : Id
  pub among : IsIn id ids
  pub change : PlainChange
  pub step : PlainStep
  pub is : IsStepOf path (mail_of mails id.0).key change step
  pub at : IsErrorAt step.from why
  pub refused : StepRefused (IsCallOf step) m n past

-- why steps were refused
abbrev pub StepsCause : List ℕ → List Mail → List Id → SyncError → ℕ → ℕ → Past → Type 0
StepsCause path mails ids why m n past = OnChanged why (IsStepRefused path mails ids why m n past)

-- a directory was not made as its folder was not there
abbrev pub IsNoFolder : DiskError → Type 0
IsNoFolder disk.Exists = ⊥
IsNoFolder why = IsOfTree why

-- the files of a folder were not listed for what stood there
abbrev pub IsOfFolder : ScanError → Type 0
IsOfFolder scan.Fault = ⊥
IsOfFolder scan.NoMemory = ⊥
IsOfFolder why = Unit {0}
