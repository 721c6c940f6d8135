-- A mailbox in one file whose messages stand between lines of four bytes 1. No driver reads it yet:
-- it has no messages, and is refused as no mailbox.
use Rattle.std.specs.Prelude.{◌≡◌, ℕ, pos, List, [], None}
use Rattle.disk_model.specs.Journal.{Past}
use Rattle.folder_core.specs.Costs.{RaisesAtMost}
use Rattle.folder_core.specs.Format.{Format}
use Rattle.folder_core.specs.Keeping.{kept_front}
use Rattle.folder_core.specs.Known.{KnownFolder}
use Rattle.folder_core.specs.Limits.{most_bytes}
use Rattle.folder_letters.specs.Letters.{Mail}
use Rattle.folder_core.specs.Message.{Message}
use Rattle.folder_core.specs.declared.error.ScanError.{ScanError}
use Rattle.folder_core.specs.declared.error.ScanError.TheVariants.{NotMailbox, Fault, NoMemory}

-- the letter of a message, as of any kind without a key
abbrev pub mmdf_letter : ℕ → Message → Mail
mmdf_letter id message =
    record { order = id; key = []; core = message.raw; text_at = 0; received = pos 0 }

-- it is no mailbox
abbrev pub mmdf_refused : List Mail → KnownFolder → ScanError → ℕ → ℕ → Past → Type 0
mmdf_refused mails known (NotMailbox place) m n past = place ≡ 0
mmdf_refused mails known Fault m n past = Unit {0}
mmdf_refused mails known NoMemory m n past = Unit {0}
mmdf_refused mails known why m n past = ⊥

-- MMDF as a kind of folders of which nothing is read
abbrev pub mmdf_format : Format
mmdf_format = record {
  reads = λ tree path. None;
  core = λ raw. raw;
  letter = mmdf_letter;
  keep = λ old stamps messages new. kept_front (λ raw. raw) old messages;
  Saw = λ letters keeps known messages m n past. ⊥;
  Refused = mmdf_refused;
  Costs = λ known came old new. Unit {0};
  MayRead = λ path old new. RaisesAtMost old.bytes_read new.bytes_read most_bytes;
  WasRead = λ listed known told. Unit {0};
}
