use Rattle.std.proofs.Common.{◌≡◌, ◌∙◌, Some, ap, map, subst, sym}
use Rattle.std.proofs.lemmas.Result.{on_ok_weaker}
use Rattle.std.specs.Prelude.{OnOk}
use Rattle.folder_letters.specs.Letters.{plain_letter}
use Rattle.index_view.specs.Answers.{row, thread_of}
use Rattle.session_index.specs.Folding.{folded_by}
use Rattle.session_index.specs.Index.{PlainIndex, Shows, answers_of, index_of}
use Rattle.session_index.proofs.IndexLemmas.{folded_shows}
use Rattle.session_index.proofs.folding.fold_at.Goals as goal

pub returns-in-Some-Some : goal.returns-in-Some-Some
returns-in-Some-Some c =
    let mails = map plain_letter c.args.archive.now.items in
    let i = index_of c.args.view.now in
    let id = c.args.id in
    let root : thread_of (answers_of mails i) id ≡ Some c.in-Some-Some.root =
    ap (λ a. thread_of a id) (sym c.requires.answered) ∙ sym c.in-Some-Some.ensures.value in
    let listed : row (answers_of mails i) id ≡ Some c.in-Some-Some.row =
    ap (λ a. row a id) (sym c.requires.answered) ∙ sym c.in-Some-Some.ensures'.value in
    subst (λ (j : PlainIndex). OnOk c.collapse.result (Shows mails j c.collapse.new.self))
    (sym (λ k. folded_by mails (root k) (listed k) i))
    (on_ok_weaker c.collapse.result (folded_shows mails c.args.view.now c.collapse.new.self _
    c.requires) c.collapse.ensures.ok)
