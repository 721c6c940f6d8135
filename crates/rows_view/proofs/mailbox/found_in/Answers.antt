use Rattle.std.proofs.Common.{◌≡◌, ◌∙◌, List, [], ap, arith, length, map, subst}
use Rattle.std.proofs.lemmas.List.{length-append}
use Rattle.folder_letters.specs.Letters.{plain_letter}
use Rattle.folder_letters.specs.declared.listing.Listed.{Listed}
use Rattle.folder_core.specs.Keeping.{IsDifference}
use Rattle.folder_core.specs.Known.{KnownFolder}
use Rattle.folder_core.proofs.RightLemmas.{first_came}
use Rattle.rows_view.proofs.mailbox.found_in.Goals as goal

pub scan-requires-clause-right : goal.scan-requires-clause-right
scan-requires-clause-right c = c.in_ok-known.ensures.right _ _

pub returns-in-Ok : goal.returns-in-Ok
returns-in-Ok c =
    let lists = c.in-Ok.ensures.lists in
    let old = map plain_letter c.args.archive.now.items in
    let long = ap length lists.archived ∙ length-append old lists.added in
    let many = lists.each in
    let none : c.in_ok-known.known.listing ≡ [] =
    ap (λ (k : KnownFolder). k.listing) c.in_ok-known.ensures.known in
    let first = first_came c.scan.new.known.listing c.in-Ok.found
    (subst (λ (l : List Listed). IsDifference l c.scan.new.known.listing c.in-Ok.found) none
    lists.difference) in
    c.first_folder_is_taken.ensures _ _ (record {
      none_gone = first.1.0;
      none_reflagged = first.1.1;
      first = length old;
      ids = lists.ids;
      within = omega (arith, long, many);
    })
