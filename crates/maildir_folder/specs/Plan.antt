-- The steps of a sync, before any of them is taken.
use Rattle.std.specs.Prelude.{◌≡◌, ◌++◌, ◌∷◌, [], ℕ, List, None}
use Rattle.mail_base.specs.Ordered.{IsIn}
use Rattle.mail_base.specs.declared.kind.Id.{Id}
use Rattle.index_items.specs.Changes.{PlainChange}
use Rattle.folder_letters.specs.Letters.{Mail}
use Rattle.folder_core.specs.Keeping.{mail_of}
use Rattle.folder_core.specs.Maildir.{MaildirFile}
use Rattle.maildir_folder.specs.NamedFile.{file_named}
use Rattle.maildir_folder.specs.Steps.{IsStepOf, PlainStep}
use Rattle.maildir_folder.specs.declared.plan.PlanError.{PlanError}
use Rattle.maildir_folder.specs.declared.plan.PlanError.TheVariants.{Gone, NoMemory}

-- one of these messages has no file, which a refusal names, unless memory ran out
abbrev pub IsPlanRefusal : List MaildirFile → List Mail → List Id → PlanError → Type 0
IsPlanRefusal files mails ids (Gone id) =
    IsIn id ids × (file_named files (mail_of mails id.0).key ≡ None)
IsPlanRefusal files mails ids NoMemory = Unit {0}

-- one step more, of a file with this base
pub record AddsStep (path base : List ℕ) (change : PlainChange) (old new : List PlainStep)
    : Type 0 where
  pub step : PlainStep
  pub is : IsStepOf path base change step
  pub more : new ≡ old ++ step ∷ []
