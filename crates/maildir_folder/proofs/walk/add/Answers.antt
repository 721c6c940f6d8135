use Rattle.std.proofs.Common.{◌≡◌, ◌+◌, OnOk, subst}
use Rattle.mail_base.specs.declared.flags.Flags.{Flags}
use Rattle.folder_letters.specs.Letters.{Mail, plain_letter}
use Rattle.folder_core.specs.ListedSoFar.{store_new, store_of}
use Rattle.folder_core.specs.Maildir.{message_of}
use Rattle.maildir_folder.specs.Candidates.{plain_file}
use Rattle.maildir_folder.proofs.walk.add.Goals as goal

pub returns-clause-ok : goal.returns-clause-ok
returns-clause-ok c =
    let old = store_of c.args.so_far.now c.args.archive.now.items in
    let new = store_of c.add.new.self c.add.new.archive.items in
    subst (λ (mail : Mail). OnOk c.add.result
    (new ≡ store_new (message_of (plain_file c.args.file.now) c.args.raw.items).flags mail old))
    (c.in_ok-letter_of.ensures (c.args.so_far.now.letters + c.args.so_far.now.fresh))
    (subst (λ (flags : Flags). OnOk c.add.result
    (new ≡ store_new flags (plain_letter c.in_ok-letter_of.field-0) old)) c.flags_in.ensures
    c.add.ensures.ok)
