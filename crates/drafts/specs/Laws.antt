-- Laws of drafts and their bytes.
use Rattle.std.specs.Prelude.{◌≡◌, true, Ok}
use Rattle.drafts.specs.PlainDraft.{PlainDraft, can_be}
use Rattle.drafts.specs.Reading.{read_draft}
use Rattle.drafts.specs.Spelled.{draft_bytes}

-- what was written is read back
abbrev pub WrittenDraftsAreRead : Type 0
WrittenDraftsAreRead = (d : PlainDraft) → can_be d ≡ true → read_draft (draft_bytes d) ≡ Ok d

-- two drafts never have the same bytes
abbrev pub DraftsDiffer : Type 0
DraftsDiffer =
    (d e : PlainDraft) → can_be d ≡ true → can_be e ≡ true → draft_bytes d ≡ draft_bytes e → d ≡ e
