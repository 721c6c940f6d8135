-- The first folder is taken in.
use Rattle.std.proofs.Common.{◌≡◌, ◌∙◌, List, [], ap, arith, length, map}
use Rattle.mail_base.specs.declared.kind.Id.{Id}
use Rattle.folder_letters.specs.Letters.{Mail}
use Rattle.folder_letters.specs.Listings.{ids_from}
use Rattle.folder_letters.specs.declared.listing.Found.{Found}
use Rattle.folder_letters.specs.declared.listing.Listed.{Listed}
use Rattle.index_view.specs.Laws.{FirstFolderIsTaken}
use Rattle.index_view.specs.View.{MayTake}
use Rattle.session_index.specs.Desk.{PlainDesk}
use Rattle.session_index.specs.Opening.{taken_in}
use Rattle.session_events.specs.Events.{held}
use Rattle.session.specs.Opening.{first_found}

pub may_open : FirstFolderIsTaken → (mails : List Mail) (found : Found)
    → found.gone.items ≡ [] → found.reflagged.items ≡ []
    → map (λ listed. listed.id) found.came.items ≡ ids_from 0 found.came.items
    → length mails ≡ length found.came.items → MayTake mails [] found
may_open law mails found gone reflagged ids each = law found mails (record {
  none_gone = gone;
  none_reflagged = reflagged;
  first = 0;
  ids = ids;
  within = omega arith;
})

module _ (mails : List Mail) (found : Found) (came : List Listed)
    (gone : found.gone.items ≡ []) (reflagged : found.reflagged.items ≡ [])
    (same : found.came.items ≡ came) where
  abbrev with_lists : List Id → List Listed → List Listed → Found
  with_lists g r c = record { gone = held g; reflagged = held r; came = held c }

  pub taken_first : (d : PlainDesk) → taken_in mails found d ≡ taken_in mails (first_found came) d
  taken_first d =
      ap (λ (g : List Id). taken_in mails
      (with_lists g found.reflagged.items found.came.items) d) gone
      ∙ ap (λ (r : List Listed). taken_in mails (with_lists [] r found.came.items) d) reflagged
      ∙ ap (λ (c : List Listed). taken_in mails (with_lists [] [] c) d) same
