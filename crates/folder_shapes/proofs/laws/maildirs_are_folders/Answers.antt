use Rattle.folder_shapes.proofs.MaildirLemmas.{a_maildir}
use Rattle.folder_shapes.proofs.laws.maildirs_are_folders.Goals as goal

pub returns : goal.returns
returns c = a_maildir
