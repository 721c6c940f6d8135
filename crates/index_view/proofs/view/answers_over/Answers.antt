use Rattle.std.proofs.Common.{◌≡◌, ◌∙◌, List, ap, map, nat_eq, subst, sym}
use Rattle.std.specs.List.{IsDistinct}
use Rattle.std.specs.Prelude.{IfOk}
use Rattle.folder_letters.specs.Letters.{plain_letter}
use Rattle.index_items.specs.Items.{plain_items}
use Rattle.index_listed.specs.Listed.{PlainListed, ids, plain_listed}
use Rattle.index_view.specs.Answers.{PlainAnswers, answers, facts}
use Rattle.index_view.specs.Listing.{all_listed}
use Rattle.index_view.proofs.ViewLemmas.{listed_ids}
use Rattle.index_view.proofs.view.answers_over.Goals as goal

pub of-requires-clause-apart : goal.of-requires-clause-apart
of-requires-clause-apart c = subst (IsDistinct nat_eq)
    (sym (ap ids (ap (map plain_listed) c.deref.ensures.value ∙ c.in_ok-listed.ensures)
    ∙ listed_ids _ (plain_items c.args.items.now))) c.requires.apart

pub returns-clause-value : goal.returns-clause-value
returns-clause-value c = subst (λ (ls : List PlainListed). IfOk c.of.result
    (λ (a : PlainAnswers). a ≡ answers ls (facts c.args.options c.args.items.now
    c.args.tables.now)))
    (ap (map plain_listed) c.deref.ensures.value ∙ c.in_ok-listed.ensures
    ∙ (λ i. all_listed (map plain_letter (c.as_slice.ensures i)) (plain_items c.args.items.now)))
    c.of.ensures.value
