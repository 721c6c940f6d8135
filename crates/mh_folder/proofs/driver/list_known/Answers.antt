use Rattle.std.proofs.Common.{◌∙◌, ℕ, List, ap, map}
use Rattle.mail_base.specs.declared.kind.Kind.TheVariants.{Mh}
use Rattle.folder_letters.specs.Letters.{plain_letter}
use Rattle.folder_core.specs.Mh.{number_at}
use Rattle.folder_core.proofs.DirectoryScanLemmas.{known_scanned, mh_directory}
use Rattle.folder_core.proofs.RightLemmas.{right_differ}
use Rattle.mh_folder.specs.Scan.{MessagesSeen}
use Rattle.mh_folder.proofs.StampsLemmas.{tells_mh}
use Rattle.mh_folder.proofs.driver.list_known.Goals as goal

pub put_listing-requires-clause-once : goal.put_listing-requires-clause-once
put_listing-requires-clause-once g c = right_differ Mh _ c.args.known.now _ c.requires.right

pub returns-clause-scans : goal.returns-clause-scans
returns-clause-scans g c =
    let listing = c.in_ok-listing.listing in
    let stamps = c.in_ok-listing.stamps in
    known_scanned Mh number_at (map plain_letter c.args.archive.now.items)
    (map plain_letter c.list_folder.new.archive.items) c.args.known.now c.put_listing.new.known
    (listing, stamps) (λ listed. listed.0.items) (λ listed. listed.1.items)
    (MessagesSeen c.args.known.now.path) c.in_ok-put_listing.field-0 _ _ mh_directory
    c.requires.right
    (tells_mh (map plain_letter c.args.archive.now.items)
    (map plain_letter c.list_folder.new.archive.items) c.args.known.now listing.items stamps.items
    _ _ c.in_ok-listing.ensures.lists.only.looks c.requires.right)
    (c.in_ok-put_listing.ensures.known
    ∙ ap (λ (bytes : List ℕ). record c.args.known.now
    { listing = listing.items; bytes = bytes; stamps = stamps.items }) c.new.ensures)
    c.in_ok-put_listing.ensures.found c.in_ok-listing.ensures.lists tt
