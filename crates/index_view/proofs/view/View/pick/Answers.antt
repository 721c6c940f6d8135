use Rattle.std.proofs.Common.{◌≡◌, ◌∙◌, List, ap, length, map, subst, sym}
use Rattle.std.proofs.lemmas.List.{length-map}
use Rattle.std.specs.Prelude.{IfOk}
use Rattle.folder_letters.specs.Letters.{plain_letter}
use Rattle.mail_base.specs.declared.kind.Id.{Id}
use Rattle.index_listed.specs.Listed.{plain_listed}
use Rattle.patterns_match.specs.Pattern.{plain_pattern}
use Rattle.index_view.specs.Listing.{all_listed}
use Rattle.index_view.specs.View.{IsOf, picked_of}
use Rattle.index_view.proofs.JudgingLemmas.{picked_is, rows_all}
use Rattle.index_view.proofs.view.View.pick.Goals as goal
use Rattle.index_view.proofs.view.View.pick.Goals.{After-deref-2}

listed_is : (c : After-deref-2) → map plain_listed c.deref-2.result.now
    ≡ all_listed (map plain_letter c.args.archive.now.items) c.self.inside.items
listed_is c = ap (map plain_listed) c.deref-2.ensures.value ∙ c.in_ok-listed.ensures
    ∙ (λ i. all_listed (map plain_letter (c.as_slice-letters.ensures i))
    (c.as_slice.ensures i))

pub picked-requires : goal.picked-requires
picked-requires c =
    let mails = map plain_letter c.args.archive.now.items in
    let of = subst (IsOf mails) (sym c.self.view_is) c.requires in
    rows_all mails _ of
    ∙ sym (ap length (listed_is (goal.at.picked-requires c).After-deref-2))
    ∙ length-map c.deref-2.result.now plain_listed

pub returns-clause-value : goal.returns-clause-value
returns-clause-value c =
    let mails = map plain_letter c.args.archive.now.items in
    let pattern = plain_pattern c.args.pattern.now in
    let of = subst (IsOf mails) (sym c.self.view_is) c.requires in
    subst (λ (z : List Id). IfOk c.picked.result (λ ids. ids.items ≡ z))
    (picked_is mails pattern _ of _ (listed_is (goal.at.returns-clause-value c).After-deref-2)
    ∙ ap (picked_of mails pattern) c.self.view_is)
    c.picked.ensures.value
