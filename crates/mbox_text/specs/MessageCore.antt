-- What stays of the lines that a walk over a message has left. For the code alone: no public clause
-- cites this.
use Rattle.std.specs.Prelude.{ℕ, Bool, List, ◌++◌}
use Rattle.mail_base.specs.Lines.{header_block, after_block}
use Rattle.folder_core.specs.Mbox.{without_status}

-- the lines that stay, by whether the last field is dropped
abbrev pub kept_from : Bool → List (List ℕ) → List (List ℕ)
kept_from dropped lines = without_status dropped (header_block lines) ++ after_block lines
