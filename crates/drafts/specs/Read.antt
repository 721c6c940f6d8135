-- What readers of drafts return, as contracts see it.
use Rattle.std.specs.Prelude.{◌≡◌, ℕ, Result, Ok, Err}
use Rattle.drafts.specs.Draft.{plain_draft}
use Rattle.drafts.specs.PlainDraft.{PlainDraft}
use Rattle.drafts.specs.declared.draft.Draft.{Draft}
use Rattle.drafts.specs.declared.draft.DraftError.{DraftError}
use Rattle.drafts.specs.declared.draft.DraftError.TheVariants as errors
use Rattle.drafts.specs.declared.fault.Fault.{Fault}
use Rattle.drafts.specs.declared.fault.Fault.TheVariants as faults

-- what was read is what reading gives, or memory ran out
abbrev pub IsRead : Result Draft DraftError → Result PlainDraft ℕ → Type 0
IsRead (Ok d) read = read ≡ Ok (plain_draft d)
IsRead (Err (errors.NotADraft place)) read = read ≡ Err place
IsRead (Err errors.NoMemory) read = Unit {0}

-- For the code alone.

-- the same, where a fault tells how many bytes are left
abbrev pub Reads : {X Y : Type 0} → (X → Y) → Result X Fault → Result Y ℕ → Type 0
Reads view (Ok x) read = read ≡ Ok (view x)
Reads view (Err (faults.Left left)) read = read ≡ Err left
Reads view (Err faults.NoMemory) read = Unit {0}
