use Rattle.mime_tree.proofs.LawsOfQuoted.{quoted_bytes_are_read}
use Rattle.mime_tree.proofs.laws.quoted_bytes_are_read.Goals as goal

pub returns : goal.returns
returns c = quoted_bytes_are_read
