use Rattle.std.proofs.Common.{◌≡◌, Some, true, ◌∙◌, [], ℕ, List, length, map, refl, sym}
use Rattle.std.proofs.lemmas.List.{length-map}
use Rattle.mail_base.specs.Series.{Held}
use Rattle.folder_letters.specs.Letters.{plain_letter}
use Rattle.folder_core.specs.Directory.{Finds}
use Rattle.folder_core.specs.Keeping.{kept_by_key}
use Rattle.folder_core.specs.ListedSoFar.{store_of}
use Rattle.folder_core.specs.Maildir.{SawMaildir, is_maildir, maildir_format}
use Rattle.folder_core.specs.MaildirNames.{order_of}
use Rattle.folder_letters.specs.declared.listing.Listed.{Listed}
use Rattle.folder_core.proofs.DirectoryScanLemmas.{folder_listed, folder_refused, no_cause}
use Rattle.folder_core.proofs.DirectoryScanLemmas.{past_limit, walk_failed}
use Rattle.folder_core.specs.Limits.{most_bytes}
use Rattle.folder_core.proofs.CostsLemmas.{raises_then}
use Rattle.folder_core.proofs.FirstLookLemmas.{stood_first, stood_later}
use Rattle.folder_core.proofs.ReadsLemmas.{left_at_most, left_whole}
use Rattle.folder_core.proofs.SeenLemmas.{only_then}
use Rattle.maildir_folder.specs.Files.{ListsFiles}
use Rattle.maildir_folder.specs.Scan.{MessagesSeen}
use Rattle.folder_core.specs.FirstLook.{found_first}
use Rattle.disk_model.specs.Judge.{GoesOn}
use Rattle.maildir_folder.specs.Candidates.{plain_file}
use Rattle.maildir_folder.proofs.Reading.{folder_costs}
use Rattle.maildir_folder.proofs.Driving.{at_path, folder_walked}
use Rattle.maildir_folder.proofs.driver.list_folder.Goals as goal

abbrev listing_of : Held Listed → List Listed
listing_of listing = listing.items

abbrev no_stamps : Held Listed → List ℕ
no_stamps listing = []

pub take_all-requires-clause-empty : goal.take_all-requires-clause-empty
take_all-requires-clause-empty g c = c.new-so_far.ensures.empty c.args.archive.now.items

pub returns-in-Err-clause-lists : goal.returns-in-Err-clause-lists
returns-in-Err-clause-lists g c =
    let known = c.args.known.now in
    walk_failed maildir_format order_of known (map plain_letter c.args.archive.now.items) _
    c.in-Err.why listing_of no_stamps (MessagesSeen known.path) _ _ _
    (λ p q. no_cause is_maildir (Finds (λ old stamps messages new. kept_by_key old messages)
    (λ keeps messages stamps. SawMaildir known.path keeps messages (length p.journal)
    (length q.journal) q) (map plain_letter c.args.archive.now.items) known)
    _ known.path c.in-Err.why _ _ q)
    c.list_files.ensures.only
    (at_path (λ l. GoesOn (λ p q. found_first l p q ≡ Some true)) c.path.result.now known.path _ _
    c.path.ensures (stood_first _ c.path.result.now _ _ c.in_ok-files.ensures.first))
    (raises_then _ _ _ 0 most_bytes c.list_files.ensures.reads
    (left_at_most c.new-so_far.result.bytes _ _ c.in-Err.ensures.walks.reads))
    c.in-Err.ensures.walks.meets

pub returns-in-Some-clause-lists : goal.returns-in-Some-clause-lists
returns-in-Some-clause-lists g c =
    let known = c.args.known.now in
    folder_refused maildir_format order_of known c.in-Some.why listing_of no_stamps
    (MessagesSeen known.path) (MessagesSeen known.path) []
    (store_of c.new-so_far.result c.args.archive.now.items)
    (store_of c.take_all.new.so_far c.take_all.new.archive.items) _ _
    (λ keeps messages p q. past_limit is_maildir
    (Finds (λ old stamps messages new. kept_by_key old messages)
    (λ keeps messages stamps. SawMaildir known.path keeps messages (length p.journal)
    (length q.journal) q) (map plain_letter c.args.archive.now.items) known)
    _ known.path keeps messages [] c.in-Some.why _ _ q)
    (c.new-so_far.ensures.letters ∙ c.len.ensures
    ∙ sym (length-map c.args.archive.now.items plain_letter))
    (sym c.refusal.ensures ∙ c.in-Some.is)
    (only_then _ _ _ c.list_files.ensures.only c.in-Ok.ensures.walks.meets.only)
    (stood_later known.path _ _ _ c.list_files.ensures.only.looks
    c.in-Ok.ensures.walks.meets.only.looks
    (at_path (λ l. GoesOn (λ p q. found_first l p q ≡ Some true)) c.path.result.now known.path _ _
    c.path.ensures (stood_first _ c.path.result.now _ _ c.in_ok-files.ensures.first)))
    (raises_then _ _ _ 0 most_bytes c.list_files.ensures.reads
    (left_whole (tt {0}) c.new-so_far.result.bytes _ _ _ c.in-Ok.ensures.walks.reads))
    (folder_walked known c.in_ok-files.files.items c.as_slice.result.now
    (store_of c.new-so_far.result c.args.archive.now.items)
    (store_of c.take_all.new.so_far c.take_all.new.archive.items) _ _ _ c.as_slice.ensures.value
    c.list_files.ensures.only c.in-Ok.ensures.walks.meets.only
    (at_path (λ l. ListsFiles l c.in_ok-files.files.items) c.path.result.now known.path _ _
    c.path.ensures c.in_ok-files.ensures.saw)
    c.in-Ok.ensures.walked)

pub returns-clause-lists : goal.returns-clause-lists
returns-clause-lists g c =
    let known = c.args.known.now in
    folder_listed maildir_format order_of known c.take_all.new.so_far.listing listing_of no_stamps
    (MessagesSeen known.path) (store_of c.new-so_far.result c.args.archive.now.items)
    (store_of c.take_all.new.so_far c.take_all.new.archive.items) _ _
    (c.new-so_far.ensures.letters ∙ c.len.ensures
    ∙ sym (length-map c.args.archive.now.items plain_letter))
    refl (sym c.refusal.ensures ∙ c.in-None.is)
    (only_then _ _ _ c.list_files.ensures.only c.in-Ok.ensures.walks.meets.only)
    (stood_later known.path _ _ _ c.list_files.ensures.only.looks
    c.in-Ok.ensures.walks.meets.only.looks
    (at_path (λ l. GoesOn (λ p q. found_first l p q ≡ Some true)) c.path.result.now known.path _ _
    c.path.ensures (stood_first _ c.path.result.now _ _ c.in_ok-files.ensures.first)))
    (raises_then _ _ _ 0 most_bytes c.list_files.ensures.reads
    (left_whole (tt {0}) c.new-so_far.result.bytes _ _ _ c.in-Ok.ensures.walks.reads))
    (folder_walked known c.in_ok-files.files.items c.as_slice.result.now
    (store_of c.new-so_far.result c.args.archive.now.items)
    (store_of c.take_all.new.so_far c.take_all.new.archive.items) _ _ _ c.as_slice.ensures.value
    c.list_files.ensures.only c.in-Ok.ensures.walks.meets.only
    (at_path (λ l. ListsFiles l c.in_ok-files.files.items) c.path.result.now known.path _ _
    c.path.ensures c.in_ok-files.ensures.saw)
    c.in-Ok.ensures.walked)

pub returns-clause-reads : goal.returns-clause-reads
returns-clause-reads g c =
    folder_costs (map plain_letter c.args.archive.now.items) c.args.known.now
    (map plain_file c.as_slice.result.now)
    (store_of c.new-so_far.result c.args.archive.now.items)
    (store_of c.take_all.new.so_far c.take_all.new.archive.items) _ _ _
    (sym c.refusal.ensures ∙ c.in-None.is)
    c.list_files.ensures.only c.in-Ok.ensures.walks.meets.only
    c.in-Ok.ensures.walked c.list_files.ensures.reads
