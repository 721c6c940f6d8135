use Rattle.std.proofs.Common.{◌≡◌, ◌∙◌, List, ap, map, subst}
use Rattle.std.proofs.lemmas.Result.{on_ok_weaker}
use Rattle.std.specs.Prelude.{OnOk, find, is_some, not}
use Rattle.folder_letters.specs.Letters.{plain_letter}
use Rattle.index_items.specs.Items.{PlainItem}
use Rattle.index_view.specs.Answers.{PlainAnswers}
use Rattle.index_view.specs.Shutting.{all_shut}
use Rattle.index_view.specs.View.{facts_of}
use Rattle.session_index.specs.Folding.{is_some_shut}
use Rattle.session_index.specs.Index.{Shows, answers_of, folded, index_of}
use Rattle.session_index.specs.Shown.{shows}
use Rattle.session_index.specs.declared.sought.Sought.TheVariants.{Collapsed}
use Rattle.session_index.proofs.IndexLemmas.{folded_shows}
use Rattle.session_index.proofs.folding.fold_all.Goals as goal

pub returns : goal.returns
returns c =
    let mails = map plain_letter c.args.archive.now.items in
    let v = c.args.view.now in
    let some_shut : c.is_some-is_shut.result ≡ is_some_shut v.answers = c.is_some-is_shut.ensures
    ∙ ap is_some (c.first_shown.ensures ∙ ap (find (shows Collapsed v.answers))
    (c.as_slice-ids.ensures ∙ c.ordered.ensures.value)) in
    let items : all_shut (not c.is_some-is_shut.result) v.answers v.items
    ≡ all_shut (not (is_some_shut (answers_of mails (index_of v)))) (answers_of mails (index_of v))
    v.items = ap (λ b. all_shut (not b) v.answers v.items) some_shut
    ∙ ap (λ (a : PlainAnswers). all_shut (not (is_some_shut a)) a v.items) c.requires.answered in
    subst (λ (l : List PlainItem). OnOk c.collapse_all.result (Shows mails
    (folded mails (record (facts_of v) { items = l }) (index_of v)) c.collapse_all.new.self)) items
    (on_ok_weaker c.collapse_all.result (folded_shows mails v c.collapse_all.new.self _ c.requires)
    c.collapse_all.ensures.ok)
