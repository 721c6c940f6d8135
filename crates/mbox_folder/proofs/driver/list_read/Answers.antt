use Rattle.std.proofs.Common.{None, map}
use Rattle.mail_base.specs.declared.kind.Kind.TheVariants.{Mbox}
use Rattle.folder_letters.specs.Letters.{plain_letter}
use Rattle.folder_core.proofs.RightLemmas.{right_differ}
use Rattle.mbox_folder.proofs.driver.list_read.Goals as goal

pub put_listing-requires-clause-once : goal.put_listing-requires-clause-once
put_listing-requires-clause-once c =
    right_differ Mbox (map plain_letter c.args.archive.now.items) c.args.known.now None c.requires
