use Rattle.std.proofs.Common.{◌≡◌, ◌∙◌, ap, length, map, nat_eq, refl, subst, sym}
use Rattle.std.specs.List.{IsDistinct}
use Rattle.folder_letters.specs.Letters.{plain_letter}
use Rattle.headers.specs.Header.{plain_header}
use Rattle.index_items.specs.Items.{plain_items}
use Rattle.index_listed.specs.Heads.{AreWithin}
use Rattle.index_listed.specs.Listed.{ids, plain_listed}
use Rattle.index_view.specs.Answers.{answers}
use Rattle.index_view.specs.Listing.{all_listed}
use Rattle.index_view.specs.View.{Folded, PlainView, facts_of, folded}
use Rattle.index_view.proofs.ViewLemmas.{folded_over, listed_ids, same_listed}
use Rattle.index_view.proofs.view.View.put_folded.Goals as goal
use Rattle.index_view.proofs.view.View.put_folded.Goals.{After-deref-4}

-- the messages with their letters
listed_is : (c : After-deref-4) → map plain_listed c.deref-4.result.now
    ≡ all_listed (map plain_letter c.args.archive.now.items) (plain_items c.args.items.items)
listed_is c = ap (map plain_listed) c.deref-4.ensures.value ∙ c.in_ok-listed.ensures
    ∙ (λ i. all_listed (map plain_letter (c.as_slice.ensures i))
    (plain_items (c.deref-2.ensures.value i)))

pub fold-requires-clause-apart : goal.fold-requires-clause-apart
fold-requires-clause-apart c =
    let mails = map plain_letter c.args.archive.now.items in
    let given = listed_is (goal.at.fold-requires-clause-apart c).After-deref-4 in
    subst (IsDistinct nat_eq)
    (sym (ap ids given ∙ listed_ids mails (plain_items c.args.items.items) ∙ c.requires.same))
    c.requires.is_of.apart

pub fold-requires-clause-were : goal.fold-requires-clause-were
fold-requires-clause-were c =
    let mails = map plain_letter c.args.archive.now.items in
    let old = c.args.self.now in
    let is = c.self.view_is in
    let given = listed_is (goal.at.fold-requires-clause-were c).After-deref-4
    ∙ same_listed mails (plain_items c.args.items.items) old.items c.requires.same in
    record {
      items = old.items;
      are = ap (λ (v : PlainView). v.answers) is ∙ c.requires.is_of.answered
          ∙ (λ i. answers (sym given i) (record (facts_of (sym is i)) { items = old.items }));
    }

pub returns-clause-ok : goal.returns-clause-ok
returns-clause-ok c =
    let mails = map plain_letter c.args.archive.now.items in
    let old = c.args.self.now in
    let inside = c.self.inside in
    let is = c.self.view_is in
    let of = c.requires.is_of in
    let items = plain_items c.args.items.items in
    let all = c.fold.new.self in
    let done = c.in_ok-self-inside.ensures in
    let given = listed_is (goal.at.returns-clause-ok c).After-deref-4 in
    let new : PlainView = record old { items = items } in
    let now = (λ i. record {
      options = inside.options;
      items = c.from_vec.ensures i;
      people = (done.same i).people;
      scores = (done.same i).scores.entries.items;
      limit = (done.same i).limit;
      heads = map plain_header inside.heads.items;
      answers = all;
      cursor = done.cursor i;
      aliases = inside.aliases.aliases;
    }) ∙ (λ i. folded (record (is i) { items = items }) all) in
    subst (λ (v : PlainView). Folded mails old v (facts_of new)) (sym now)
    (folded_over mails old new all of.heads
    (subst (AreWithin (length old.heads)) (sym c.requires.same) of.within)
    (subst (IsDistinct nat_eq) (sym c.requires.same) of.apart)
    (done.ok ∙ (λ i. answers (given i)
    (record (facts_of (is i)) { items = plain_items (c.deref-3.ensures.value i) })))
    refl refl refl)
