use Rattle.std.proofs.Common.{◌∙◌, [], map}
use Rattle.folder_letters.specs.Letters.{plain_letter}
use Rattle.mail_base.specs.declared.kind.Kind.TheVariants.{Maildir}
use Rattle.folder_core.specs.MaildirNames.{order_of}
use Rattle.folder_core.proofs.DirectoryScanLemmas.{known_scanned, maildir_directory}
use Rattle.folder_core.proofs.RightLemmas.{right_differ}
use Rattle.maildir_folder.specs.Scan.{MessagesSeen}
use Rattle.maildir_folder.proofs.Driving.{maildir_tells, search_right}
use Rattle.maildir_folder.proofs.driver.list_known.Goals as goal

pub list_folder-requires : goal.list_folder-requires
list_folder-requires g c = search_right _ c.args.known.now _ c.requires

pub put_listing-requires-clause-once : goal.put_listing-requires-clause-once
put_listing-requires-clause-once g c =
    right_differ Maildir (map plain_letter c.args.archive.now.items) c.args.known.now _ c.requires

pub returns-in-Ok-put_listing-clause-scans : goal.returns-in-Ok-put_listing-clause-scans
returns-in-Ok-put_listing-clause-scans g c =
    let known = c.args.known.now in
    known_scanned Maildir order_of (map plain_letter c.args.archive.now.items)
    (map plain_letter c.list_folder.new.archive.items) known c.put_listing.new.known
    c.in-Ok.listing (λ listing. listing.items) (λ listing. []) (MessagesSeen known.path)
    c.in-Ok-put_listing.found _ _ maildir_directory c.requires
    (maildir_tells (map plain_letter c.args.archive.now.items)
    (map plain_letter c.list_folder.new.archive.items) known c.in-Ok.listing.items _ _)
    (c.in-Ok-put_listing.ensures.known ∙ (λ i. record known {
      listing = c.in-Ok.listing.items;
      bytes = c.new.ensures i;
      stamps = c.new-2.ensures i;
    }))
    c.in-Ok-put_listing.ensures.found c.in-Ok.ensures.lists c.in-Ok.ensures.reads
