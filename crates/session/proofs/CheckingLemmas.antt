-- What a check finds may be taken in, and what it makes of a session.
use Rattle.std.proofs.Common.{◌≡◌, ◌≤◌, ◌<◌, ◌++◌, ◌∷◌, ◌∙◌, ℕ, Bool, true, false, List, []}
use Rattle.std.proofs.Common.{Err, Ok, Result, ap, arith, inl, inr, length, length-append, map}
use Rattle.std.proofs.Common.{refl, subst, sym}
use Rattle.std.proofs.lemmas.List.{take-append-le}
use Rattle.std.proofs.lemmas.List.Elements.{All-cons, All-head, All-nil, All-tail}
use Rattle.std.specs.List.{All}
use Rattle.mail_base.specs.Ordered.{IsIn}
use Rattle.folder_letters.specs.Letters.{Mail}
use Rattle.folder_letters.specs.Listings.{ids_from}
use Rattle.folder_letters.specs.declared.listing.Found.{Found}
use Rattle.folder_letters.specs.declared.listing.Listed.{Listed}
use Rattle.folder_core.specs.Keeping.{IsDifference, ids_differ, lists_id, mail_of}
use Rattle.folder_core.proofs.KeepingLemmas.{mail_stays}
use Rattle.folder_core.proofs.RightLemmas.{below_later, rise_differ}
use Rattle.index_items.specs.Found.{AreListedBelow}
use Rattle.index_items.specs.Items.{PlainItem, numbers}
use Rattle.index_listed.specs.Heads.{AreWithin}
use Rattle.index_listed.specs.Listed.{PlainListed, header_of}
use Rattle.index_view.specs.Answers.{answers}
use Rattle.index_view.specs.Listing.{all_listed}
use Rattle.index_view.specs.View.{IsOf, MayTake, PlainView, facts_of}
use Rattle.index_view.proofs.JoinLemmas.{all_below, heads_short}
use Rattle.listing_laws.specs.Listing.{listing_of}
use Rattle.listing_laws.proofs.IdLemmas.{lists_in}
use Rattle.listing_laws.proofs.LawLemmas.{came_once, new_apart, same_came}
use Rattle.listing_laws.proofs.ListingLemmas.{found_below}
use Rattle.session_events.specs.Happened.{IsKnownOf}
use Rattle.session_events.specs.declared.open_folder.OpenFolder.{OpenFolder}
use Rattle.session.specs.Looking.{FindsNews}
use Rattle.session.specs.Checking.{found_again, taken_quietly}
use Rattle.session.specs.Core.{Stands, plain_core, with_desk}
use Rattle.session.specs.declared.core_state.Core.{Core}
use Rattle.session_events.specs.Events.{held_found, plain_found}
use Rattle.session_index.specs.Desk.{Holds, PlainDesk, plain_desk}
use Rattle.session_index.specs.Opening.{checked, taken_if}
use Rattle.session_index.specs.declared.desk.Desk.{Desk}
use Rattle.mail_base.specs.declared.series.NoMemory.{NoMemory}
use Rattle.std.specs.Prelude.{OnOk, if◌then◌else◌}

-- A view is of its letters with more behind them.

listed_more : (mails more : List Mail) (items : List PlainItem)
    → AreWithin (length mails) (numbers items)
    → all_listed (mails ++ more) items ≡ all_listed mails items
listed_more mails more [] within = refl
listed_more mails more (item ∷ items) within =
    let same : mail_of (mails ++ more) item.id.0 ≡ mail_of mails item.id.0 =
    mail_stays mails more item.id.0 within.0 in
    let again = listed_more mails more items within.1 in
    λ i. record { id = item.id; mail = same i; header = header_of (same i) } ∷ again i

pub of_more : (mails more : List Mail) (v : PlainView) → IsOf mails v → IsOf (mails ++ more) v
of_more mails more v of = record {
  heads = record {
    same = of.heads.same ∙ ap (map header_of) (sym (take-append-le (length v.heads) mails more
        (heads_short v.heads mails of.heads)));
  };
  within = of.within;
  apart = of.apart;
  answered = of.answered ∙ ap (λ (ls : List PlainListed). answers ls (facts_of v))
      (sym (listed_more mails more v.items (all_below mails v of)));
  stands = of.stands;
}

-- What was known is listed.

listed_here : (listing : List Listed) → (l : Listed) → IsIn l listing
    → lists_id listing l.id.0 ≡ true
listed_here listing l held = lists_in listing l held

all_in : (P : Listed → Type 0) (listing : List Listed) → All P listing → (l : Listed)
    → IsIn l listing → P l
all_in P [] all l held = absurd held
all_in P (m ∷ listing) all l (inl same) = subst P same (All-head P m listing all)
all_in P (m ∷ listing) all l (inr held) = all_in P listing (All-tail P m listing all) l held

-- what holds of each element that is listed holds of all
pub every_in : (P : Listed → Type 0) (listing : List Listed)
    → ((l : Listed) → IsIn l listing → P l) → All P listing
every_in P [] each = All-nil P
every_in P (l ∷ listing) each = All-cons P l listing (each l (inl refl))
    (every_in P listing (λ m held. each m (inr held)))

pub known_in : (forgot : Bool) (listing known : List Listed) → IsKnownOf forgot listing known
    → (l : Listed) → IsIn l known → lists_id listing l.id.0 ≡ true
known_in false listing known is l held =
    listed_here listing l (subst (IsIn l) is held)
known_in true listing known is l held =
    all_in (λ m. lists_id listing m.id.0 ≡ true) known is l held

-- ids of messages are those of a listing
items_below : (letters : ℕ) (items : List PlainItem) → AreWithin letters (numbers items)
    → AreListedBelow letters (listing_of items)
items_below letters [] within = All-nil (λ l. l.id.0 < letters)
items_below letters (item ∷ items) within =
    All-cons (λ l. l.id.0 < letters) (record { id = item.id; flags = item.flags })
    (listing_of items) within.0 (items_below letters items within.1)

-- What was found may be taken in.
module _ (mails letters : List Mail) (folder : OpenFolder) (theirs found : Found)
    (finds : FindsNews mails letters folder theirs)
    (difference : IsDifference folder.listing.items folder.known.listing found) where
  pub found_came : found.came.items ≡ theirs.came.items
  found_came = same_came folder.listing.items finds.was folder.known.listing found theirs folder.met
      finds.difference difference finds.ids
      (subst (λ (n : ℕ). AreListedBelow n folder.listing.items) (sym finds.met) finds.within)
      (known_in folder.forgot folder.listing.items finds.was finds.known)

  found_ids : map (λ l. l.id) found.came.items ≡ ids_from (length mails) found.came.items
  found_ids =
      ap (map (λ (l : Listed). l.id)) found_came ∙ finds.ids
      ∙ ap (λ (n : ℕ). ids_from n theirs.came.items) finds.met
      ∙ ap (ids_from (length mails)) (sym found_came)

  longer : length mails ≤ length letters
  longer = omega (arith, ap length finds.grown, length-append mails finds.added)

  pub may_take : (v : PlainView) → IsOf mails v → MayTake letters v.items found
  may_take v of =
      let below = found_below (length letters) folder.listing.items folder.known.listing found
      (below_later (length mails) (length letters) folder.listing.items longer finds.within)
      finds.below difference in
      record {
        below = below.0;
        came_below = below.1;
        apart = new_apart v.items found.came.items (length mails) of.apart
            (items_below (length mails) v.items (all_below mails v of))
            (subst (λ (l : List Listed). ids_differ l ≡ true) (sym found_came)
            (came_once finds.was folder.known.listing theirs finds.difference
            (rise_differ letters folder.known.listing finds.ordered)))
            found_ids;
      }

-- What was found is taken in, and told or not.
module _ (mails : List Mail) (found : Found) (quiet : Bool) (core : Core) (desk : Desk)
    (result : Result (Unit {0}) NoMemory) where
  abbrev news : Core
  news = record core { desk = desk }

  news_stand : (wanted : PlainDesk) → Holds mails wanted desk
      → wanted ≡ (if quiet then taken_quietly mails (plain_found found) (plain_desk core.desk)
      else checked mails (held_found (plain_found found)) (plain_desk core.desk))
      → Stands mails (found_again quiet mails (plain_found found) (plain_core core)) news
  news_stand wanted holds is = record {
    is_of = holds.is_of;
    same = ap (λ (d : PlainDesk). with_desk d (plain_core core)) (holds.same ∙ is);
  }

  ok_news : (r : Result (Unit {0}) NoMemory) {P Q : Type 0} → OnOk r P → (P → Q) → OnOk r Q
  ok_news (Ok done) h f = f h
  ok_news (Err none) h f = tt

  pub quiet_news : quiet ≡ true → OnOk result (Holds mails (taken_if mails found found.gone.items
      found.reflagged.items found.came.items (plain_desk core.desk)) desk)
      → OnOk result (Stands mails (found_again quiet mails (plain_found found) (plain_core core))
      news)
  quiet_news is h = ok_news result h (λ holds. news_stand _ holds
      (ap (λ (b : Bool). if b then taken_quietly mails (plain_found found) (plain_desk core.desk)
      else checked mails (held_found (plain_found found)) (plain_desk core.desk)) (sym is)))

  pub told_news : quiet ≡ false → OnOk result (Holds mails (checked mails found
      (plain_desk core.desk)) desk)
      → OnOk result (Stands mails (found_again quiet mails (plain_found found) (plain_core core))
      news)
  told_news is h = ok_news result h (λ holds. news_stand _ holds
      (ap (λ (b : Bool). if b then taken_quietly mails (plain_found found) (plain_desk core.desk)
      else checked mails (held_found (plain_found found)) (plain_desk core.desk)) (sym is)))
