-- Fronts of drafts: how far bytes go that are no draft.
use Rattle.std.specs.Prelude.{◌≡◌, ◌≢◌, ◌≤◌, ◌<◌, ◌+◌, ℕ, true, List, ◌++◌, length, take}
use Rattle.drafts.specs.PlainDraft.{PlainDraft, can_be}
use Rattle.drafts.specs.Spelled.{draft_bytes}
use Rattle.drafts.specs.declared.draft.DraftError.{DraftError}
use Rattle.drafts.specs.declared.draft.DraftError.TheVariants.{NotADraft, NoMemory}

-- some draft begins with these bytes
abbrev pub IsFront : List ℕ → Type 0
IsFront front =
    (d : PlainDraft) × (tail : List ℕ) × (can_be d ≡ true) × (draft_bytes d ≡ front ++ tail)

-- no draft has these bytes
abbrev pub IsNoDraft : List ℕ → Type 0
IsNoDraft bytes = (d : PlainDraft) → can_be d ≡ true → draft_bytes d ≢ bytes

-- The bytes are no draft, and the place is the first at which no draft's bytes go on: those before
-- it begin some draft, and with the byte there they begin none, or they end there.
pub record StopsAt (bytes : List ℕ) (place : ℕ) : Type 0 where
  pub none : IsNoDraft bytes
  pub within : place ≤ length bytes
  pub front : IsFront (take place bytes)
  pub first : place < length bytes → ¬ (IsFront (take (place + 1) bytes))

-- why bytes are not read as a draft
abbrev pub IsCause : List ℕ → DraftError → Type 0
IsCause bytes (NotADraft place) = StopsAt bytes place
IsCause bytes NoMemory = Unit {0}
