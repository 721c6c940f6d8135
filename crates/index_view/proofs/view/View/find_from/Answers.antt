use Rattle.std.proofs.Common.{◌≡◌, ◌∙◌, ◌<◌, List, Option, ap, length, map, subst, sym}
use Rattle.std.proofs.lemmas.List.{length-map}
use Rattle.std.specs.Prelude.{IfOk}
use Rattle.folder_letters.specs.Letters.{plain_letter}
use Rattle.mail_base.specs.declared.kind.Id.{Id}
use Rattle.index_listed.specs.Listed.{plain_listed}
use Rattle.patterns_match.specs.Listings.{Message}
use Rattle.patterns_match.specs.Pattern.{plain_pattern}
use Rattle.index_view.specs.Listing.{all_listed}
use Rattle.index_view.specs.Searching.{found_from}
use Rattle.index_view.specs.View.{IsOf, PlainView, facts_of, messages_over, visible_of}
use Rattle.index_view.proofs.JudgingLemmas.{rows_all, seen_over}
use Rattle.index_view.proofs.view.View.find_from.Goals as goal
use Rattle.index_view.proofs.view.View.find_from.Goals.{After-deref-2}

listed_is : (c : After-deref-2) → map plain_listed c.deref-2.result.now
    ≡ all_listed (map plain_letter c.args.archive.now.items) c.self.inside.items
listed_is c = ap (map plain_listed) c.deref-2.ensures.value ∙ c.in_ok-listed.ensures
    ∙ (λ i. all_listed (map plain_letter (c.as_slice-letters.ensures i))
    (c.as_slice.ensures i))

pub found_from-requires-clause-listed : goal.found_from-requires-clause-listed
found_from-requires-clause-listed c =
    let mails = map plain_letter c.args.archive.now.items in
    let of = subst (IsOf mails) (sym c.self.view_is) c.requires.is_of in
    rows_all mails _ of
    ∙ sym (ap length (listed_is (goal.at.found_from-requires-clause-listed c).After-deref-2))
    ∙ length-map c.deref-2.result.now plain_listed

pub found_from-requires-clause-place : goal.found_from-requires-clause-place
found_from-requires-clause-place c =
    subst (λ (v : PlainView). c.args.place < length (visible_of v)) (sym c.self.view_is)
    c.requires.place

pub returns-clause-found : goal.returns-clause-found
returns-clause-found c =
    let mails = map plain_letter c.args.archive.now.items in
    let pattern = plain_pattern c.args.pattern.now in
    let place = c.args.place in
    let of = subst (IsOf mails) (sym c.self.view_is) c.requires.is_of in
    let inside = c.self.inside in
    subst (λ (z : Option Id). IfOk c.found_from.result (λ found. found ≡ z))
    (ap (λ (m : List Message). found_from inside.tables.people pattern m inside.answers place)
    (seen_over mails _ of _ (listed_is (goal.at.returns-clause-found c).After-deref-2))
    ∙ ap (λ (v : PlainView). found_from v.people pattern (messages_over mails (facts_of v))
    v.answers place) c.self.view_is)
    c.found_from.ensures.value
