-- What the last line says where no prompt stands.
use Rattle.std.specs.Prelude.{[], ℕ, List}
use Rattle.index_functions.specs.Notices.{notice_text}
use Rattle.index_functions.specs.Syncs.{synced_text}
use Rattle.index_functions.specs.declared.message.Message.{Message}
use Rattle.index_functions.specs.declared.message.Message.TheVariants.{Blank, Says, Text, Synced}

-- the text of the last line where no prompt stands
abbrev pub message_text : Message → List ℕ
message_text Blank = []
message_text (Says notice) = notice_text notice
message_text (Text line) = line.items
message_text (Synced kept gone) = synced_text kept gone
