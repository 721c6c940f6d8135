use Rattle.std.proofs.Common.{drop, ap, ◌∙◌}
use Rattle.mime_tree.specs.DashLines.{delimits_at}
use Rattle.mime_tree.proofs.CutLemmas.{drop_min}
use Rattle.mime_tree.proofs.cut.delimits_at.Goals as goal

pub returns : goal.returns
returns c =
    let boundary = c.args.boundary.now in
    let text = c.args.text.now in
    c.begins_with_delimiter.ensures
    ∙ ap (λ t. delimits_at boundary t 0)
    (c.split_at.ensures.back ∙ ap (λ n. drop n text) c.min.ensures ∙ drop_min c.args.place text)
