use Rattle.std.proofs.Common.{◌∙◌, ℕ, List, map, refl, sym}
use Rattle.std.proofs.lemmas.List.{length-map}
use Rattle.std.proofs.lemmas.List.Elements.{All-same}
use Rattle.mail_base.specs.Series.{Held}
use Rattle.mail_base.specs.declared.kind.Kind.TheVariants.{Mh}
use Rattle.folder_letters.specs.Letters.{plain_letter}
use Rattle.folder_core.specs.Mh.{mh_format, number_at}
use Rattle.folder_letters.specs.declared.listing.Listed.{Listed}
use Rattle.folder_core.proofs.DirectoryScanLemmas.{walk_failed}
use Rattle.folder_core.proofs.FirstLookLemmas.{stood_later}
use Rattle.folder_core.proofs.ReadsLemmas.{left_at_most, left_whole}
use Rattle.folder_core.proofs.RightLemmas.{right_same}
use Rattle.folder_core.proofs.SeenLemmas.{only_then}
use Rattle.mh_folder.specs.NumberedName.{IsNumbered}
use Rattle.mh_folder.specs.Scan.{MessagesSeen}
use Rattle.mh_folder.specs.Walk.{kept_of}
use Rattle.mh_folder.proofs.DriverLemmas.{failed_cause, folder_limited, folder_reads}
use Rattle.mh_folder.proofs.DriverLemmas.{listed_first, listed_numbers, walked_by}
use Rattle.mh_folder.proofs.DriverLemmas.{folder_taken, folder_unwalked, folder_walked, known_rise}
use Rattle.mh_folder.proofs.DriverLemmas.{never_listed}
use Rattle.mh_folder.proofs.driver.list_folder.Goals as goal

abbrev listing_of : Held Listed × Held ℕ → List Listed
listing_of listed = listed.0.items

abbrev stamps_of : Held Listed × Held ℕ → List ℕ
stamps_of listed = listed.1.items

pub returns-in-Err-clause-lists : goal.returns-in-Err-clause-lists
returns-in-Err-clause-lists g c =
    never_listed c.args.known.now c.path.result.now _ _ c.in-Err.why listing_of stamps_of
    (MessagesSeen c.args.known.now.path) _ _ c.path.ensures c.in-Err.ensures

pub begin_visit-requires-clause-rises : goal.begin_visit-requires-clause-rises
begin_visit-requires-clause-rises g c =
    known_rise (map plain_letter c.args.archive.now.items) c.args.known.now _ (right_same Mh _ _ _ _
    c.list_numbers.ensures.only.looks c.requires.right)

pub returns-in-Err-begin_visit-clause-lists : goal.returns-in-Err-begin_visit-clause-lists
returns-in-Err-begin_visit-clause-lists g c =
    walk_failed mh_format number_at c.args.known.now _ _ c.in-Err-begin_visit.why listing_of
    stamps_of
    (MessagesSeen c.args.known.now.path) _ _ _
    (λ p q. failed_cause c.args.known.now (map plain_letter c.args.archive.now.items)
    c.in-Err-begin_visit.why
    p q)
    c.list_numbers.ensures.only
    (listed_first c.in-Ok.files _ _ _ _ c.path.ensures c.in-Ok.ensures.first)
    (folder_unwalked c.args.known.now.path _ _ _ c.list_numbers.ensures.only.looks
    c.begin_visit.ensures.meets.only.looks c.list_numbers.ensures.reads c.begin_visit.ensures.reads)
    c.in-Err-begin_visit.ensures.meets

pub returns-in-Err-take_all-clause-lists : goal.returns-in-Err-take_all-clause-lists
returns-in-Err-take_all-clause-lists g c =
    walk_failed mh_format number_at c.args.known.now _ _ c.in-Err-take_all.why listing_of stamps_of
    (MessagesSeen c.args.known.now.path) _ _ _
    (λ p q. failed_cause c.args.known.now (map plain_letter c.args.archive.now.items)
    c.in-Err-take_all.why p q)
    (only_then _ _ _ c.list_numbers.ensures.only c.begin_visit.ensures.meets.only)
    (stood_later c.args.known.now.path _ _ _ c.list_numbers.ensures.only.looks
    c.begin_visit.ensures.meets.only.looks
    (listed_first c.in-Ok.files _ _ _ _ c.path.ensures c.in-Ok.ensures.first))
    (folder_reads c.args.known.now.path _ _ _ _ c.list_numbers.ensures.only.looks
    c.begin_visit.ensures.meets.only.looks c.take_all.ensures.walks.meets.only.looks
    c.list_numbers.ensures.reads c.begin_visit.ensures.reads
    (left_at_most c.new-walk.result.so_far.bytes _ _ c.in-Err-take_all.ensures.walks.reads))
    c.in-Err-take_all.ensures.walks.meets

pub returns-in-Some-clause-lists : goal.returns-in-Some-clause-lists
returns-in-Some-clause-lists g c =
    let names = c.list_numbers.ensures.only in
    let visit = c.begin_visit.ensures.meets.only in
    let walk = c.take_all.ensures.walks.meets.only in
    let first = kept_of c.new-walk.result c.args.archive.now.items in
    let kept = kept_of c.take_all.new.self c.take_all.new.archive.items in
    folder_limited c.args.known.now c.in-Some.why listing_of stamps_of first kept _ _
    (c.new-walk.ensures.letters ∙ c.len.ensures
    ∙ sym (length-map c.args.archive.now.items plain_letter))
    (sym c.refusal.ensures ∙ c.in-Some.is) (only_then _ _ _ names (only_then _ _ _ visit walk))
    (stood_later c.args.known.now.path _ _ _ names.looks (only_then _ _ _ visit walk).looks
    (listed_first c.in-Ok.files _ _ _ _ c.path.ensures c.in-Ok.ensures.first))
    (folder_reads c.args.known.now.path _ _ _ _ names.looks visit.looks walk.looks
    c.list_numbers.ensures.reads c.begin_visit.ensures.reads
    (left_whole (tt {0}) c.new-walk.result.so_far.bytes _ _ _
    c.in-Ok-take_all.ensures.walks.reads))
    (folder_walked (map plain_letter c.args.archive.now.items) c.args.known.now
    c.in-Ok.files.items c.as_slice.result.now c.in-Ok-begin_visit.visit first kept _ _ _ _
    c.as_slice.ensures.value names.looks visit.looks walk.looks c.requires.right
    c.in-Ok-begin_visit.ensures.files (listed_numbers _ _ _ _ _ c.path.ensures c.in-Ok.ensures.saw)
    c.in-Ok-begin_visit.ensures.read
    (walked_by _ _ _ _ _ _ _ _ c.path-2.ensures c.in-Ok-take_all.ensures.walked))

pub take_all-requires-clause-each : goal.take_all-requires-clause-each
take_all-requires-clause-each g c =
    All-same IsNumbered c.as_slice.result.now _ c.as_slice.ensures.value
    c.in-Ok.ensures.saw.order.each

pub take_all-requires-clause-empty : goal.take_all-requires-clause-empty
take_all-requires-clause-empty g c =
    record {
      store = c.new-walk.ensures.empty c.args.archive.now.items;
      stamps =
          c.new-walk.ensures.stamps;
    }

pub returns-clause-lists : goal.returns-clause-lists
returns-clause-lists g c =
    let names = c.list_numbers.ensures.only in
    let visit = c.begin_visit.ensures.meets.only in
    let walk = c.take_all.ensures.walks.meets.only in
    let first = kept_of c.new-walk.result c.args.archive.now.items in
    let kept = kept_of c.take_all.new.self c.take_all.new.archive.items in
    folder_taken c.args.known.now (c.take_all.new.self.so_far.listing, c.take_all.new.self.stamps)
    listing_of stamps_of first kept _ _
    (c.new-walk.ensures.letters ∙ c.len.ensures
    ∙ sym (length-map c.args.archive.now.items plain_letter)) refl refl
    (sym c.refusal.ensures ∙ c.in-None.is) (only_then _ _ _ names (only_then _ _ _ visit walk))
    (stood_later c.args.known.now.path _ _ _ names.looks (only_then _ _ _ visit walk).looks
    (listed_first c.in-Ok.files _ _ _ _ c.path.ensures c.in-Ok.ensures.first))
    (folder_reads c.args.known.now.path _ _ _ _ names.looks visit.looks walk.looks
    c.list_numbers.ensures.reads c.begin_visit.ensures.reads
    (left_whole (tt {0}) c.new-walk.result.so_far.bytes _ _ _
    c.in-Ok-take_all.ensures.walks.reads))
    (folder_walked (map plain_letter c.args.archive.now.items) c.args.known.now
    c.in-Ok.files.items c.as_slice.result.now c.in-Ok-begin_visit.visit first kept _ _ _ _
    c.as_slice.ensures.value names.looks visit.looks walk.looks c.requires.right
    c.in-Ok-begin_visit.ensures.files (listed_numbers _ _ _ _ _ c.path.ensures c.in-Ok.ensures.saw)
    c.in-Ok-begin_visit.ensures.read
    (walked_by _ _ _ _ _ _ _ _ c.path-2.ensures c.in-Ok-take_all.ensures.walked))
