use Rattle.std.proofs.Common.{◌∙◌, map}
use Rattle.std.proofs.lemmas.Result.{on_ok_weaker}
use Rattle.folder_letters.specs.Letters.{plain_letter}
use Rattle.session_index.proofs.IndexLemmas.{all_shows}
use Rattle.session_index.proofs.acting.act_on_all.Goals as goal

pub returns-then-is_still : goal.returns-then-is_still
returns-then-is_still c =
    let mails = map plain_letter c.args.archive.now.items in
    let are = c.deref.ensures.value
    ∙ c.in_ok-ids.ensures.items_if_clones_equal (λ x y same. same)
    ∙ c.as_slice.ensures ∙ c.ordered.ensures.value in
    all_shows mails c.args.act c.deref.result.now c.args.view.now c.act_still.new.self c.requires
    are c.act_still.ensures

pub returns : goal.returns
returns c =
    let mails = map plain_letter c.args.archive.now.items in
    let are = c.deref-2.ensures.value
    ∙ c.in_ok-ids.ensures.items_if_clones_equal (λ x y same. same)
    ∙ c.as_slice.ensures ∙ c.ordered.ensures.value in
    on_ok_weaker c.act_on.result (λ turned. all_shows mails c.args.act c.deref-2.result.now
    c.args.view.now c.act_on.new.self c.requires are turned) c.act_on.ensures.ok
