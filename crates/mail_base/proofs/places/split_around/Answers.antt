use Rattle.std.proofs.Common.{ap, ◌∙◌, drop}
use Rattle.std.proofs.lemmas.List.{drop-drop}
use Rattle.mail_base.proofs.places.split_around.Goals as goal

pub returns-clause-value : goal.returns-clause-value
returns-clause-value g c =
    let behind =
    c.split_at-2.ensures.back ∙ ap (drop 1) c.split_at.ensures.back
    ∙ drop-drop 1 c.args.place c.args.items.now in
    let before = c.split_at.ensures.front in
    cc
