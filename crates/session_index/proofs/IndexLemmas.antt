-- Views that were given other facts show the index that was given them.
use Rattle.std.proofs.Common.{◌≡◌, ◌∙◌, ap, List, refl, subst}
use Rattle.folder_letters.specs.Letters.{Mail}
use Rattle.mail_base.specs.declared.kind.Id.{Id}
use Rattle.index_items.specs.Acts.{acted_all as all_acted_items}
use Rattle.index_items.specs.declared.act.Act.{Act}
use Rattle.index_view.specs.Answers.{Facts, PlainAnswers}
use Rattle.index_listed.specs.Cursor.{moved, moved_by_shutting}
use Rattle.index_view.specs.View.{Folded, IsOf, PlainView, Turned, answers_over, facts_of}
use Rattle.session_index.specs.Acts.{all_acted}
use Rattle.session_index.specs.Index.{Shows, folded, given, index_of}
use Rattle.session_index.specs.Shown.{seen}

module _ (mails : List Mail) (old new : PlainView) (facts : Facts) (is : IsOf mails old) where
  pub turned_shows : Turned mails old new facts → Shows mails (given mails facts (index_of old)) new
  turned_shows t = record {
    is_of = t.is_of;
    same = λ i. record { facts = t.given i; cursor = cursor i; aliases = t.aliases i };
  }
    where
      answered : new.answers ≡ answers_over mails facts
      answered = t.is_of.answered ∙ ap (answers_over mails) t.given

      cursor : new.cursor ≡ moved (seen (answers_over mails (facts_of old)))
          (seen (answers_over mails facts)) old.cursor
      cursor = t.cursor ∙ (λ i. moved (seen (is.answered i)) (seen (answered i)) old.cursor)

  pub folded_shows : Folded mails old new facts
      → Shows mails (folded mails facts (index_of old)) new
  folded_shows t = record {
    is_of = t.is_of;
    same = λ i. record { facts = t.given i; cursor = cursor i; aliases = t.aliases i };
  }
    where
      answered : new.answers ≡ answers_over mails facts
      answered = t.is_of.answered ∙ ap (answers_over mails) t.given

      cursor : new.cursor ≡ moved_by_shutting (answers_over mails facts).sight
          (seen (answers_over mails (facts_of old))) (seen (answers_over mails facts)) old.cursor
      cursor = t.cursor ∙ (λ i. moved_by_shutting (answered i).sight (seen (is.answered i))
          (seen (answered i)) old.cursor)

-- nothing was given
pub same_shows : (mails : List Mail) (v : PlainView) → IsOf mails v → Shows mails (index_of v) v
same_shows mails v is = record { is_of = is; same = refl }

-- this was done to all messages at once
pub all_shows : (mails : List Mail) (act : Act) (ids : List Id) (old new : PlainView)
    → IsOf mails old → ids ≡ old.answers.sight.order
    → Turned mails old new (record (facts_of old) { items = all_acted_items act ids old.items })
    → Shows mails (all_acted mails act (index_of old)) new
all_shows mails act ids old new is are turned = subst (λ (l : List Id). Shows mails
    (given mails (record (facts_of old) { items = all_acted_items act l old.items })
    (index_of old)) new)
    (are ∙ ap (λ (a : PlainAnswers). a.sight.order) is.answered)
    (turned_shows mails old new _ is turned)
