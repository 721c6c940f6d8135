use Rattle.std.proofs.Common.{◌∙◌, Option, ap, find, sym}
use Rattle.std.proofs.lemmas.List.Folds.{find-append}
use Rattle.std.specs.Option.{option_or}
use Rattle.mail_base.specs.declared.kind.Id.{Id}
use Rattle.session_index.specs.Shown.{shows}
use Rattle.session_index.proofs.ways.first_of.Goals as goal

pub returns-in-Some : goal.returns-in-Some
returns-in-Some c =
    let test = shows c.args.sought c.args.view.now.answers in
    let others = c.args.others.now in
    ap (λ (r : Option Id). option_or r (find test others)) c.in-Some.ensures
    ∙ sym (find-append test c.args.ids.now others)

pub returns-in-None : goal.returns-in-None
returns-in-None c =
    let test = shows c.args.sought c.args.view.now.answers in
    let others = c.args.others.now in
    c.first_shown-in-None.ensures
    ∙ ap (λ (r : Option Id). option_or r (find test others)) c.in-None.ensures
    ∙ sym (find-append test c.args.ids.now others)
