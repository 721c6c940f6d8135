-- What the lines of a header block tell of a message's flags. For the code alone: no public clause
-- cites this.
use Rattle.std.specs.Prelude.{◌==◌, ℕ, Bool, true, false, ◌&&◌, ◌||◌, List, [], ◌∷◌, codes}
use Rattle.std.specs.List.{list_any}
use Rattle.mail_base.specs.declared.flags.Flags.{Flags}
use Rattle.mail_base.specs.Lines.{continuations, fields_of}
use Rattle.folder_core.specs.Mbox.{holds}
use Rattle.mbox_text.specs.declared.status.StatusField.{StatusField}
use Rattle.mbox_text.specs.declared.status.StatusField.TheVariants.{Status, XStatus, Other}
use Rattle.mbox_text.specs.declared.status.Told.{Told}

-- the text holds the letter
abbrev pub has : ℕ → List ℕ → Bool
has letter text = list_any (λ b. b == letter) text

-- the lines hold the letter: where they continue a field of that name, or by a field of that name
abbrev pub lines_hold : Bool → List ℕ → ℕ → List (List ℕ) → Bool
lines_hold continued name letter lines =
    (continued && list_any (has letter) (continuations lines))
    || holds name letter (fields_of lines)

-- the line may begin a status field, by its first byte
abbrev pub starts_status : List ℕ → Bool
starts_status [] = false
starts_status (b ∷ _) = b == 83 || b == 115 || b == 88 || b == 120

-- the field is Status
abbrev pub is_status : StatusField → Bool
is_status Status = true
is_status XStatus = false
is_status Other = false

-- the field is X-Status
abbrev pub is_x_status : StatusField → Bool
is_x_status Status = false
is_x_status XStatus = true
is_x_status Other = false

-- a line that continues the field goes where flags change
abbrev pub drops : Told → Bool
drops told = is_status told.field || is_x_status told.field

-- the flags told so far and by further lines of the block
abbrev pub told_by : Told → List (List ℕ) → Flags
told_by told lines = record told.flags {
  seen = told.flags.seen || lines_hold (is_status told.field) (codes "Status") 82 lines;
  aged = told.flags.aged || lines_hold (is_status told.field) (codes "Status") 79 lines;
  replied = told.flags.replied || lines_hold (is_x_status told.field) (codes "X-Status") 65 lines;
  flagged = told.flags.flagged || lines_hold (is_x_status told.field) (codes "X-Status") 70 lines;
}
